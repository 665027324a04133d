-- Parts of a journal put into a buffer piece by piece are put there whole.
use Rattle.std.proofs.Common.{◌≡◌, ℕ, ◌+◌, ◌≤◌, ◌++◌, length, replicate, Some, refl, ap, ◌∙◌, append_assoc, arith, length-append}
use Rattle.std.specs.List.{sum}
use Rattle.card.specs.Meaning.{Bytes, Name}
use Rattle.card.specs.Calls.{overwrite}
use Rattle.card.specs.Numbers.{number_bytes}
use Rattle.journal.specs.Format.{header, record_bytes, super_bytes, checksum, magic}
use Rattle.journal.proofs.Pieces.{overwrite_append}

pub header_filled :
    (s : Bytes) (nonce size : ℕ) →
    overwrite (overwrite (overwrite (overwrite (overwrite (overwrite s 0 (replicate 512 0)) 0 magic) 12 (number_bytes nonce)) 16 (number_bytes size)) 20 (number_bytes 512)) 24 (number_bytes 512)
    ≡ overwrite s 0 (header 0 nonce size)
unfolding header
header_filled s nonce size = refl

pub record_filled :
    (s : Bytes) (p n page : ℕ) (bytes : Bytes) → length bytes ≡ 512 → p + 520 ≤ length s →
    overwrite (overwrite (overwrite s p (number_bytes page)) (p + 4) bytes) (p + 516) (number_bytes (checksum n bytes)) ≡ overwrite s p (record_bytes n (record { page = page; bytes = bytes }))
unfolding record_bytes
record_filled s p n page bytes whole room =
    ap (λ (t : Bytes). overwrite t (p + 516) (number_bytes (checksum n bytes))) (overwrite_append s p (number_bytes page) bytes (p + 4) refl (omega arith))
    ∙ overwrite_append s p (number_bytes page ++ bytes) (number_bytes (checksum n bytes)) (p + 516) (simp length-append (omega (arith, whole))) (omega arith)

pub super_filled :
    (s : Bytes) (p : ℕ) (name : Name) → p + 20 + length name ≤ length s →
    overwrite (overwrite (overwrite (overwrite (overwrite s p (number_bytes 2097153)) (p + 4) name) (p + 4 + length name) (number_bytes (length name))) (p + 8 + length name) (number_bytes (sum name))) (p + 12 + length name) magic
    ≡ overwrite s p (super_bytes (Some name))
unfolding super_bytes
super_filled s p name room =
    ap (λ (t : Bytes). overwrite (overwrite (overwrite t (p + 4 + n) len) (p + 8 + n) added) (p + 12 + n) magic) (overwrite_append s p page name (p + 4) refl (omega arith))
    ∙ ap (λ (t : Bytes). overwrite (overwrite t (p + 8 + n) added) (p + 12 + n) magic) (overwrite_append s p (page ++ name) len (p + 4 + n) (simp length-append (omega arith)) (omega arith))
    ∙ ap (λ (t : Bytes). overwrite t (p + 12 + n) magic) (overwrite_append s p ((page ++ name) ++ len) added (p + 8 + n) (simp length-append (omega arith)) (omega arith))
    ∙ overwrite_append s p (((page ++ name) ++ len) ++ added) magic (p + 12 + n) (simp length-append (omega arith)) (omega arith)
    ∙ ap (λ (t : Bytes). overwrite s p (page ++ t)) (append_assoc (name ++ len) added magic ∙ append_assoc name len (added ++ magic))
  where
    n : ℕ
    n = length name

    page : Bytes
    page = number_bytes 2097153

    len : Bytes
    len = number_bytes (length name)

    added : Bytes
    added = number_bytes (sum name)
