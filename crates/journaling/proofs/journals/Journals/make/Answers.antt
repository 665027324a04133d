use Rattle.std.proofs.Common.{◌≡◌, ◌∙◌, arith}
use Rattle.std.proofs.lemmas.Result.{err_from_is_err_and}
use Rattle.pager.proofs.Counted.{changed_few}
use Rattle.steps.proofs.Went.{went_acted}
use Rattle.journaling.specs.Made.{size_of}
use Rattle.journaling.proofs.Recorded.{recorded_ok}
use Rattle.journaling.proofs.Fills.{recorded_lawful, super_lawful, not_refused}
use Rattle.journaling.proofs.Makes.{created_as, not_created, not_read, stored_whole}
use Rattle.journaling.proofs.journals.Journals.make.Goals as goal

pub returns-in_err-create : goal.returns-in_err-create
returns-in_err-create g c =
    let p = err_from_is_err_and c.from_residual.result c.from_residual.ensures.1 in
    rw (p.1, p.2)
    (not_created _ c.args.self.now c.args.database _ _ _ (created_as g.C.Card.meaning c.args.self.now c.args.database _ _ _ _ _ _ c.journal_of-number.ensures c.new-site.ensures (c.bytes.ensures ∙ c.file-journal.ensures) c.in_err-create.ensures))

pub read_originals-requires : goal.read_originals-requires
read_originals-requires g c =
    let is = c.as_slice-pages.ensures.is ∙ c.recorded_pages-recorded.ensures in
    record { few = c.as_slice-pages.ensures.few; pages = rw is (recorded_ok _ c.get-size.result c.get-size.ensures.some c.get-size.ensures.small) }

pub returns-in_err-read_originals : goal.returns-in_err-read_originals
returns-in_err-read_originals g c =
    let size : c.get-size.result ≡ size_of c.args.self.now c.args.database = c.get-size.ensures.is (omega (arith, c.requires, c.args.self.now.names.now.list.few)) in
    let is = rw size at (c.as_slice-pages.ensures.is ∙ c.recorded_pages-recorded.ensures) in
    let name = c.bytes-2.ensures ∙ c.file-file.ensures in
    let created = created_as g.C.Card.meaning c.args.self.now c.args.database _ _ _ _ _ _ c.journal_of-number.ensures c.new-site.ensures (c.bytes.ensures ∙ c.file-journal.ensures) c.in_ok-create.ensures in
    let p = err_from_is_err_and c.from_residual-in_err-read_originals.result c.from_residual-in_err-read_originals.ensures.1 in
    rw (p.1, p.2) (not_read _ c.args.self.now c.args.database _ _ created _ _ (rw (name, is) at c.in_err-read_originals.ensures.went))

pub unwrap-length-requires : goal.unwrap-length-requires
unwrap-length-requires g c =
    let is = c.as_slice-pages.ensures.is ∙ c.recorded_pages-recorded.ensures in
    let some = c.get-size.ensures.some in
    let small = c.get-size.ensures.small in
    let super = super_lawful c.args.self.now.super_journal c.args.self.now.named in
    not_refused _ _ _ _ _ _ c.fill_journal.result some small
    (rw is (recorded_lawful _ c.get-size.result some small (changed_few c.args.self.now.memory.now c.args.database (omega (arith, c.requires, c.args.self.now.names.now.list.few))))) (rw c.super_name-name.ensures super) c.read_originals.array_long c.fill_journal.ensures

pub returns : goal.returns
returns g c =
    let size : c.get-size.result ≡ size_of c.args.self.now c.args.database = c.get-size.ensures.is (omega (arith, c.requires, c.args.self.now.names.now.list.few)) in
    let is = rw size at (c.as_slice-pages.ensures.is ∙ c.recorded_pages-recorded.ensures) in
    let name = c.bytes-2.ensures ∙ c.file-file.ensures in
    let created = created_as g.C.Card.meaning c.args.self.now c.args.database _ _ _ _ _ _ c.journal_of-number.ensures c.new-site.ensures (c.bytes.ensures ∙ c.file-journal.ensures) c.in_ok-create.ensures in
    let stored = went_acted g.C.Card.meaning _ _ _ _ _ _ c.told.ensures c.store_journal.ensures in
    let filled = rw (c.unwrap-length.ensures, is, size, c.super_name-name.ensures) at c.fill_journal.ensures in
    stored_whole _ c.args.self.now c.args.database _ _ created _ _ _ _ c.requires (rw (name, is) at c.in_ok-read_originals.ensures.went) (rw (name, is) at c.in_ok-read_originals.ensures.read) filled _ _
    (rw (c.new-site.ensures, c.bytes-3.ensures ∙ c.file-journal.ensures, c.journal_of-number.ensures, is) at stored)
