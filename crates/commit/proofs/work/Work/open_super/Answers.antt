use Rattle.std.proofs.Common.{◌≡◌, false, true, [], ◌∷◌, sym, refl, ap, ◌∙◌}
use Rattle.std.proofs.lemmas.Result.{err_from_is_err_and}
use Rattle.card.specs.Calls.{create, write}
use Rattle.steps.proofs.Went.{went_end, went_then, went_stop, went_as}
use Rattle.commit.specs.Works.{several}
use Rattle.commit.proofs.work.Work.open_super.Goals as goal

pub returns-then-not-many : goal.returns-then-not-many
returns-then-not-many g c =
    let one : several c.args.self.now ≡ false = sym c.many.ensures ∙ c.if-not-many.true in
    rw one (went_end g.C.Card.meaning c.args.card.now tt)

pub returns-in_err-create : goal.returns-in_err-create
returns-in_err-create g c =
    let two : several c.args.self.now ≡ true = sym c.many.ensures ∙ c.if-not-many.false in
    let p = err_from_is_err_and c.from_residual.result c.from_residual.ensures.1 in
    rw (two, p.1, p.2)
    (went_stop _ (_ ∷ []) _ _ _ _ (went_as _ _ _ _ _ _ _ _ _ _ c.new-site.ensures (c.bytes.ensures ∙ c.file-file.ensures) refl c.in_err-create.ensures))

pub returns-in_err-write : goal.returns-in_err-write
returns-in_err-write g c =
    let two : several c.args.self.now ≡ true = sym c.many.ensures ∙ c.if-not-many.false in
    let p = err_from_is_err_and c.from_residual-in_err-write.result c.from_residual-in_err-write.ensures.1 in
    let created = went_as g.C.Card.meaning _ _ _ _ _ _ _ create create c.new-site.ensures (c.bytes.ensures ∙ c.file-file.ensures) refl c.in_ok-create.ensures in
    rw (two, p.1, p.2)
    (went_then _ (_ ∷ []) _ _ _ _ tt _ created
    (went_stop _ (_ ∷ []) _ _ _ _ (went_as _ _ _ _ _ _ _ _ _ _ c.new-site.ensures (c.bytes-2.ensures ∙ c.file-file.ensures) (ap (write 0) c.fill_super-bytes.ensures) c.in_err-write.ensures)))

pub returns : goal.returns
returns g c =
    let two : several c.args.self.now ≡ true = sym c.many.ensures ∙ c.if-not-many.false in
    let created = went_as g.C.Card.meaning _ _ _ _ _ _ _ create create c.new-site.ensures (c.bytes.ensures ∙ c.file-file.ensures) refl c.in_ok-create.ensures in
    let put = went_as g.C.Card.meaning _ _ _ _ _ _ _ _ _ c.new-site.ensures (c.bytes-2.ensures ∙ c.file-file.ensures) (ap (write 0) c.fill_super-bytes.ensures) c.in_ok-write.ensures in
    rw two
    (went_then _ (_ ∷ []) _ _ _ _ tt _ created
    (went_then _ (_ ∷ []) _ _ _ _ tt _ put (went_as _ _ _ _ _ _ _ _ _ _ c.new-site.ensures (c.bytes-3.ensures ∙ c.file-file.ensures) refl c.sync.ensures)))
