use Rattle.std.proofs.Common.{◌≡◌, ℕ, subst, arith}
use Rattle.halves.specs.Halves.{KeptBelow}
use Rattle.halves.proofs.Keeping.{kept_as, kept_small}
use Rattle.halves.proofs.both.Halves.keep.Goals as goal

pub returns-then-slot_size-lt-HEAD : goal.returns-then-slot_size-lt-HEAD
returns-then-slot_size-lt-HEAD c = kept_small c.args.choice c.args.self.now.current.now c.args.self.now.synced.now (omega (arith, c.slot_size.ensures, c.if-slot_size-lt-HEAD.true))

pub returns : goal.returns
returns c =
    let all : c.loop-k.k ≡ 16 = omega arith in
    let current = c.args.self.now.current.now in
    let synced = c.args.self.now.synced.now in
    kept_as c.args.choice current synced c.loop-k.self.current.now c.loop-k.self.synced.now
    (subst (λ (k : ℕ). KeptBelow c.args.choice current synced k c.loop-k.self.current.now c.loop-k.self.synced.now) all c.loop-k.invariant)
