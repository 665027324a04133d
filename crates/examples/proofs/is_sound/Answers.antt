use Rattle.std.proofs.Common.{◌≡◌, refl, ap, ◌∙◌}
use Rattle.std.proofs.lemmas.Bool.{both_ways}
use Rattle.card.specs.Meaning.{Bytes}
use Rattle.journal.specs.Judged.{Judged, spent, NoJournal}
use Rattle.journal.specs.declared.verdict.Sound.{Sound as SoundParts}
use Rattle.journal.specs.declared.verdict.Verdict.{Verdict}
use Rattle.journal.specs.declared.verdict.Verdict.TheVariants.{Spent, Damaged, Sound}
use Rattle.journal.proofs.Encoded.{spent_full}
use Rattle.examples.proofs.Rows.{table}
use Rattle.examples.proofs.is_sound.Goals as goal

-- bytes that are judged not sound are no journal's
none : (b : Bytes) (v : Verdict) → Judged b v → ((s : SoundParts) → v ≡ Sound s → ⊥) → NoJournal b
unfolding Judged
none b Spent is other = λ j ok e. both_ways _ (ap spent e ∙ spent_full j ok) is
none b (Damaged k) is other = is.1
none b (Sound s) is other = absurd (other s refl)

pub returns-in-Sound : goal.returns-in-Sound
unfolding Judged
returns-in-Sound c = let is = c.in-Sound.ensures.judged in record { table = table; sound = (is.0, is.1, is.2) }

pub returns-in_default : goal.returns-in_default
returns-in_default c = record { table = table; sound = none _ c.judge.result c.judge.ensures.judged c.in_default.not-Sound }
