use Rattle.std.proofs.Common.{◌+◌, [], ◌∷◌, ◌++◌, length, ap, ◌∙◌, take, arith, length-append}
use Rattle.super_journal.proofs.Listed.{ended_put, overwrite_front}
use Rattle.super_journal.proofs.writer.put_ended.Goals as goal

pub returns-clause-put : goal.returns-clause-put
returns-clause-put c = ended_put c.args.buffer.now _ _ c.args.place c.args.name.now c.requires c.put_bytes.ensures c.put_bytes-2.ensures

pub returns-clause-front : goal.returns-clause-front
returns-clause-front c =
    let s = c.args.buffer.now in
    let name = c.args.name.now in
    let end = c.args.place + length name + 1 in
    ap (take end) (ended_put s _ _ c.args.place name c.requires c.put_bytes.ensures c.put_bytes-2.ensures)
    ∙ overwrite_front s (name ++ (0 ∷ [])) c.args.place end (omega (arith, length-append name (0 ∷ []))) (omega arith)
