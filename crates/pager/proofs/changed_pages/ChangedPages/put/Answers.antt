use Rattle.std.proofs.Common.{◌≡◌, ◌+◌, Bool, length, cond, is_some, sym, ap, ◌∙◌, arith, length-append, length-set}
use Rattle.std.proofs.lemmas.List.Elements.{All-push}
use Rattle.pager.specs.declared.changed_page.ChangedPage.{ChangedPage}
use Rattle.pager.proofs.Looks.{look_none, look_found, look_replaced, look_added}
use Rattle.pager.proofs.changed_pages.ChangedPages.put.Goals as goal

pub push-requires : goal.push-requires
push-requires c = (omega arith, c.requires (ap is_some (look_none c.args.self.now.rows.items c.args.database c.args.page (sym c.find.ensures ∙ c.in-None.is))))

pub invariant_of-self-in-None : goal.invariant_of-self-in-None
invariant_of-self-in-None c =
    let room = c.requires (ap is_some (look_none c.args.self.now.rows.items c.args.database c.args.page (sym c.find.ensures ∙ c.in-None.is))) in
    rw c.push.ensures (record { few = simp length-append (omega arith); whole = All-push (λ (row : ChangedPage). length row.bytes ≡ 512) c.args.self.now.rows.items (record { database = c.args.database; page = c.args.page; bytes = c.args.bytes }) c.args.self.now.whole (omega arith) })

pub returns-in-Some : goal.returns-in-Some
returns-in-Some c =
    let rows = c.args.self.now.rows.items in
    let at = sym c.find.ensures ∙ c.in-Some.is in
    rw c.set.ensures
    (record {
      look = λ e q. look_replaced rows c.args.database c.args.page c.args.bytes e q c.in-Some.i at;
      used = simp length-set (sym (ap (λ (b : Bool). cond b (length rows) (length rows + 1)) (ap is_some (look_found rows c.args.database c.args.page c.in-Some.i at))));
    })

pub returns-in-None : goal.returns-in-None
returns-in-None c =
    let rows = c.args.self.now.rows.items in
    let at = sym c.find.ensures ∙ c.in-None.is in
    rw c.push.ensures
    (record {
      look = λ e q. look_added rows c.args.database c.args.page c.args.bytes e q at;
      used = simp length-append (sym (ap (λ (b : Bool). cond b (length rows) (length rows + 1)) (ap is_some (look_none rows c.args.database c.args.page at))));
    })
