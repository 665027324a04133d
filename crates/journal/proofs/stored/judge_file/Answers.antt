use Rattle.std.proofs.Common.{◌≡◌, ◌-◌, length, take, None, Err, Option, sym, ap, ◌∙◌, arith}
use Rattle.std.proofs.lemmas.Result.{err_from_is_err_and}
use Rattle.card.specs.Meaning.{Bytes}
use Rattle.card.specs.Calls.{part_of}
use Rattle.journal.specs.declared.fault.JournalFault.{JournalFault}
use Rattle.journal.proofs.Fetched.{no_file, a_file, asked, front_read, whole_read}
use Rattle.journal.proofs.Ran.{acted_end, acted_next, acted_stop, acted_of, read_as}
use Rattle.journal.proofs.stored.judge_file.Goals as goal

pub returns-in_err-length-clause-acted : goal.returns-in_err-length-clause-acted
returns-in_err-length-clause-acted g c =
    let p = err_from_is_err_and c.from_residual.result c.from_residual.ensures.1 in
    acted_stop _ _ _ _ _ _ _ _ c.in_err-length.ensures.answered (p.1 ∙ ap (λ (f : JournalFault). Err f) p.2)

pub returns-in_default-clause-acted : goal.returns-in_default-clause-acted
returns-in_default-clause-acted g c =
    let absent : g.C.Card.meaning.holds c.args.card.now c.args.name.now ≡ None = no_file _ (sym c.in_default.is ∙ c.in_ok-length.ensures.told) in
    acted_of c.args.name.now absent (acted_next _ _ _ _ _ _ _ _ _ c.in_ok-length.ensures.answered (acted_end _ _ _))

pub returns-in_err-read-clause-acted : goal.returns-in_err-read-clause-acted
returns-in_err-read-clause-acted g c =
    let p = err_from_is_err_and c.from_residual-in_err-read.result c.from_residual-in_err-read.ensures.1 in
    let buf = c.args.buffer.now in
    let file = a_file _ c.in-Some.length (sym c.in-Some.is ∙ c.in_ok-length.ensures.told) in
    let room : length buf ≡ 17724 = omega arith in
    let size = asked file.0 buf c.min-taken.result c.in-Some.length file.2 c.min-taken.ensures room in
    acted_of c.args.name.now file.1
    (acted_next _ _ _ _ _ _ _ _ _ c.in_ok-length.ensures.answered (acted_stop _ _ _ _ _ _ _ _ (read_as size c.in_err-read.ensures.answered) (p.1 ∙ ap (λ (f : JournalFault). Err f) p.2)))

pub returns : goal.returns
returns g c =
    let buf = c.args.buffer.now in
    let t = c.min-taken.result in
    let file = a_file _ c.in-Some.length (sym c.in-Some.is ∙ c.in_ok-length.ensures.told) in
    let b = file.0 in
    let room : length buf ≡ 17724 = omega arith in
    let held = c.in_ok-length.ensures.answered.called.holds ∙ file.1 in
    let size = asked b buf t c.in-Some.length file.2 c.min-taken.ensures room in
    let read : c.read.new.buffer ≡ take (length (take (t - 0) buf)) b =
    c.in_ok-read.ensures.told ∙ ap (λ (f : Option Bytes). part_of f 0 (length (take (t - 0) buf))) held in
    record {
      acted =
          acted_of c.args.name.now file.1
          (acted_next _ _ _ _ _ _ _ _ _ c.in_ok-length.ensures.answered (acted_next _ _ _ _ _ _ _ _ _ (read_as size c.in_ok-read.ensures.answered) (acted_end _ _ _)));
      told = (
        b,
        file.1,
        c.judge_front.ensures b (sym file.2) (front_read b buf t c.in-Some.length file.2 c.min-taken.ensures room c.read.new.buffer read),
        whole_read b buf t c.in-Some.length file.2 c.min-taken.ensures room c.read.new.buffer read,
      );
    }
