use Rattle.std.proofs.Common.{◌+◌, Bool, cond, length, sym, ap, ◌∙◌, arith}
use mathlib.Core.Logic.{∥∥₁_map}
use Rattle.pager.specs.View.{fields}
use Rattle.refusal.specs.Results.{refused}
use Rattle.pager.proofs.Views.{held_written, stack_written}
use Rattle.pager.proofs.Keeps.{allowed, linked, look_long, page_is, page_low, page_high, wrote_from, sound_written, saved_added}
use Rattle.pager.proofs.memory.Memory.write.Goals as goal

pub invariant_of-self : goal.invariant_of-self
invariant_of-self c =
    let m = c.args.self.now in
    let d = c.args.database in
    let p = c.args.page in
    let ok = allowed m d p (length c.args.bytes.now) (sym c.admit.ensures.refusal ∙ ap refused c.in_ok-row.was) in
    let inside = ok.database in
    let wrote =
    wrote_from m d p c.args.bytes.now c.in_ok-row.row c.max.result c.insert.new.self c.put.new.self c.add_once.new.self (omega arith) (omega arith) (page_is m d p ok.page) c.max.ensures c.insert.ensures c.put.ensures.look c.in_ok-row.ensures.whole
    (c.add_once.ensures.rows ∙ saved_added m d p c.len.result c.was-was.result c.len.ensures.is c.was-was.ensures) in
    record { few = m.few; low = m.low; sound = ∥∥₁_map m.sound (sound_written m.count (fields m) _ d p c.args.bytes.now wrote ok.database m.few (page_is m d p ok.page) (page_high m d p ok.page) ok.whole (look_long m.changed.rows.items m.changed.whole) c.put.ensures.used c.len.result c.was-was.result c.len.ensures.is c.add_once.ensures.rows) }

pub returns-clause-done : goal.returns-clause-done
returns-clause-done c _ files =
    let m = c.args.self.now in
    let d = c.args.database in
    let p = c.args.page in
    let bytes = c.args.bytes.now in
    let ok = allowed m d p (length bytes) (sym c.admit.ensures.refusal ∙ ap refused c.in_ok-row.was) in
    let inside = ok.database in
    let wrote =
    wrote_from m d p bytes c.in_ok-row.row c.max.result c.insert.new.self c.put.new.self c.add_once.new.self (omega arith) (omega arith) (page_is m d p ok.page) c.max.ensures c.insert.ensures c.put.ensures.look c.in_ok-row.ensures.whole
    (c.add_once.ensures.rows ∙ saved_added m d p c.len.result c.was-was.result c.len.ensures.is c.was-was.ensures) in
    let long = look_long m.changed.rows.items m.changed.whole in
    let link = linked m d p (omega arith) in
    let h = held_written files (fields m) _ (length m.levels.items) d p bytes wrote (page_low m d p ok.page) (page_high m d p ok.page) ok.whole long link in
    let s = stack_written files (fields m) _ (length m.levels.items) d p bytes wrote (page_low m d p ok.page) (page_high m d p ok.page) ok.whole long link in
    λ i. record { held = h i; savepoints = s i }

pub returns-clause-used : goal.returns-clause-used
returns-clause-used c _ =
    let m = c.args.self.now in
    let ok = allowed m c.args.database c.args.page (length c.args.bytes.now) (sym c.admit.ensures.refusal ∙ ap refused c.in_ok-row.was) in
    let inside = ok.database in
    c.put.ensures.used ∙ ap (λ (b : Bool). cond b (length m.changed.rows.items) (length m.changed.rows.items + 1)) (sym (linked m c.args.database c.args.page (omega arith)))
