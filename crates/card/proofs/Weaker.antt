-- What could remain after a call's work, from more that could remain before it.
use Rattle.std.proofs.Common.{Some, Option}
use Rattle.card.specs.Meaning.{Bytes}
use Rattle.card.specs.Calls.{Op, length_of, read, create, write, set_length, sync, delete, Could}

pub could_weaker : (op : Op) (P Q : Option Bytes → Type 0) → ((o : Option Bytes) → P o → Q o) → (f o : Option Bytes) → Could op P f o → Could op Q f o
could_weaker length_of P Q h f o x = h o x
could_weaker (read p k) P Q h f o x = h o x
could_weaker create P Q h f o x = x
could_weaker (write p bytes) P Q h f o (a, b, e, may, part) = (a, b, e, h (Some a) may, part)
could_weaker (set_length n) P Q h f o (a, b, e, may, between) = (a, b, e, h (Some a) may, between)
could_weaker sync P Q h f o x = x
could_weaker delete P Q h f o x = x
