-- The few calls are answered as the examples say.
use Rattle.std.proofs.Common.{refl}
use Rattle.store.specs.Examples.{Examples}

pub examples : Examples
examples =
    record {
      cold_begin = refl;
      cold_read = refl;
      cold_use = refl;
      ready_begin = refl;
      ready_read = refl;
      ready_use = refl;
      last_begin = refl;
      full_begin = refl;
      running_begin = refl;
      running_read = refl;
      running_use = refl;
      stale_use = refl;
      void_use = refl;
      void_running = refl;
      cold_given = refl;
      ready_given = refl;
      last_given = refl;
      full_given = refl;
      running_given = refl;
    }
