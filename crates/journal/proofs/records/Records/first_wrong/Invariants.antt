use Rattle.std.proofs.Common.{◌≡◌, ℕ, ◌<◌, true}
use Rattle.journal.specs.Judged.{record_right}
use Rattle.journal.proofs.records.Records.first_wrong.Given as goal

abbrev pub invariant-loop-index : goal.invariant-loop-index
invariant-loop-index l = (k : ℕ) → k < l.index → record_right l.self.bytes.now k ≡ true
