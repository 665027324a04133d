use Rattle.std.proofs.Common.{◌+◌, ◌<◌, [], ◌∷◌, ◌++◌, length, sym, refl, ap, ◌∙◌, arith}
use Rattle.card.specs.Meaning.{Name}
use Rattle.card.specs.Calls.{overwrite}
use Rattle.super_journal.specs.Super.{super_journal_bytes}
use Rattle.super_journal.specs.Written.{texts}
use Rattle.super_journal.proofs.Listed.{text_at, length_texts, length_more, length_front, filled_none, filled_more}
use Rattle.super_journal.proofs.writer.fill_names.Goals as goal

pub loop-name-init : goal.loop-name-init
unfolding super_journal_bytes
loop-name-init c = (sym (filled_none c.args.buffer.now), refl)

pub put_ended-end-requires : goal.put_ended-end-requires
put_ended-end-requires c =
    let ns = texts c.args.names.now in
    let k = c.loop-name.name-index in
    let n = length_texts c.args.names.now in
    let size = ap length (text_at c.args.names.now k) in
    omega (arith, length_more ns k (omega arith), length_front ns (k + 1), c.requires.room)

pub loop-name-preserved : goal.loop-name-preserved
loop-name-preserved c =
    let ns = texts c.args.names.now in
    let k = c.loop-name.name-index in
    let n = length_texts c.args.names.now in
    let name = text_at c.args.names.now k in
    let size = ap length name in
    let inside : k < length ns = omega arith in (
      filled_more c.args.buffer.now c.loop-name.buffer c.put_ended-end.new.buffer ns k inside c.requires.room c.loop-name.invariant.0 c.loop-name.end c.loop-name.invariant.1
          (c.put_ended-end.ensures.put ∙ ap (λ (n : Name). overwrite c.loop-name.buffer c.loop-name.end (n ++ (0 ∷ []))) (sym name)),
      omega (arith, c.put_ended-end.ensures.end, length_more ns k inside, size),
    )
