use Rattle.std.proofs.Common.{◌≡◌, ℕ, Some, sym, subst}
use Rattle.journal.specs.Format.{full}
use Rattle.names.specs.Files.{file_of}
use Rattle.set_files.proofs.Played.{sound_told}
use Rattle.settling.proofs.playback.reread.Goals as goal

pub unreachable-requires : goal.unreachable-requires
unreachable-requires g c =
    let j = c.requires.hot.0 in
    let held = subst (λ (k : ℕ). g.C.Card.meaning.holds c.args.card.now (file_of c.args.names.now k) ≡ Some (full j)) (sym c.journal_of.ensures) c.requires.hot.1.1 in
    let t = sound_told _ _ _ _ _ c.in_ok-judge_numbered.ensures.told c.requires.hot.1.0 held in
    c.in_default.not-Sound t.0 (cc (t.1, c.unwrap-verdict.ensures))

pub returns-clause-told : goal.returns-clause-told
returns-clause-told g c = λ j whole.
    let held = subst (λ (k : ℕ). g.C.Card.meaning.holds c.args.card.now (file_of c.args.names.now k) ≡ Some (full j)) (sym c.journal_of.ensures) whole.1 in
    let t = sound_told _ _ _ _ j c.in_ok-judge_numbered.ensures.told whole.0 held in
    let same : t.0 ≡ c.in-Sound.sound = cc (t.1, c.unwrap-verdict.ensures, c.in-Sound.is) in
    rw (← same) (t.2, t.3)
