-- The slots of an image: where they lie, and what a write of a whole slot makes of them.
use Rattle.std.proofs.Common.{◌≡◌, ℕ, ◌+◌, ◌-◌, ◌*◌, ◌/◌, ◌<◌, ◌≤◌, length, get_or, take, drop, sym, refl, ap, ◌∙◌, ap₂, mul-le-mul_right, add-mul, one-mul, div-mul-le_self, arith, length-drop, length-take}
use native.Mathlib.Decide.{dec_lt}
use borrow.Rule.Slice.PartMut.{put_mid}
use Rattle.std.proofs.lemmas.List.{get_or-take, get_or-drop, ext_get_or}
use Rattle.card.specs.Meaning.{Bytes}
use Rattle.card.specs.Calls.{overwrite}
use Rattle.card.proofs.Contents.{overwrite_before, overwrite_inside, overwrite_after}
use Rattle.image.specs.Layout.{slot, slot_size}
use Rattle.image.proofs.Bytes.{put_overwrite, overwrite_length}

-- the rows of a table lie one after the other
pub row_before : (k j size : ℕ) → k < j → k * size + size ≤ j * size
row_before k j size lt =
    let e : (k + 1) * size ≡ k * size + size = add-mul k 1 size ∙ ap (λ (x : ℕ). k * size + x) (one-mul size) in
    let le : (k + 1) * size ≤ j * size = mul-le-mul_right {m = k + 1} {n = j} size (omega arith) in
    omega (arith, e, le)

-- a slot lies within the image
pub slot_within : (image : Bytes) (k : ℕ) → k < 16 → k * slot_size image + slot_size image ≤ length image
slot_within image k lt = omega (arith, row_before k 16 (length image / 16) lt, div-mul-le_self (length image) 16)

pub length_slot : (image : Bytes) (k : ℕ) → k < 16 → length (slot image k) ≡ slot_size image
unfolding slot
length_slot image k lt = simp (length-take, length-drop) (omega (arith, slot_within image k lt))

-- the part of the image between a slot's bounds is the slot, and a write there is a write of the slot
module _ (image : Bytes) (k at end : ℕ) (start : at ≡ k * slot_size image) (stop : end ≡ at + slot_size image) where
  long : end - at ≡ slot_size image
  long = omega arith

  pub slot_part : take (end - at) (drop at image) ≡ slot image k
  unfolding slot
  slot_part = ap₂ (λ (n p : ℕ). take n (drop p image)) long start

  pub slot_write : (new : Bytes) → length new ≡ slot_size image → put_mid at (end - at) image new ≡ overwrite image (k * slot_size image) new
  slot_write new whole = put_overwrite at (end - at) image new new refl (long ∙ sym whole) ∙ ap (λ (p : ℕ). overwrite image p new) start

pub slot_at : (image : Bytes) (k i : ℕ) → i < slot_size image → get_or (slot image k) i 0 ≡ get_or image (k * slot_size image + i) 0
unfolding slot
slot_at image k i lt = get_or-take (slot_size image) (drop (k * slot_size image) image) i 0 lt ∙ get_or-drop (k * slot_size image) image i 0

-- a whole slot put over the image
module _ (image : Bytes) (j : ℕ) (new : Bytes) (in_image : j < 16) (whole : length new ≡ slot_size image) where
  fits : j * slot_size image + length new ≤ length image
  fits = omega (arith, slot_within image j in_image, whole)

  pub put_length : length (overwrite image (j * slot_size image) new) ≡ length image
  put_length = overwrite_length image (j * slot_size image) new fits

  pub put_size : slot_size (overwrite image (j * slot_size image) new) ≡ slot_size image
  put_size = ap (λ (n : ℕ). n / 16) put_length

  put_at : (k i : ℕ) → i < slot_size image → get_or (slot (overwrite image (j * slot_size image) new) k) i 0 ≡ get_or (overwrite image (j * slot_size image) new) (k * slot_size image + i) 0
  put_at k i lt =
      slot_at (overwrite image (j * slot_size image) new) k i (omega (arith, put_size))
      ∙ ap (λ (n : ℕ). get_or (overwrite image (j * slot_size image) new) (k * n + i) 0) put_size

  pub slot_put : slot (overwrite image (j * slot_size image) new) j ≡ new
  slot_put = ext_get_or 0 _ _ (long ∙ sym whole) each
    where
      long : length (slot (overwrite image (j * slot_size image) new) j) ≡ slot_size image
      long = length_slot (overwrite image (j * slot_size image) new) j in_image ∙ put_size

      each : (i : ℕ) → i < length (slot (overwrite image (j * slot_size image) new) j) → get_or (slot (overwrite image (j * slot_size image) new) j) i 0 ≡ get_or new i 0
      each i lt =
          let below : i < slot_size image = omega (arith, long) in
          let e : j * slot_size image + i - j * slot_size image ≡ i = omega arith in
          put_at j i below
          ∙ overwrite_inside image (j * slot_size image) new (omega (arith, fits)) (j * slot_size image + i) (omega arith) (omega (arith, whole))
          ∙ ap (λ (x : ℕ). get_or new x 0) e

  pub slot_other : (k : ℕ) → k < 16 → (k ≡ j → ⊥) → slot (overwrite image (j * slot_size image) new) k ≡ slot image k
  slot_other k lk ne = ext_get_or 0 _ _ (long ∙ sym (length_slot image k lk)) each
    where
      long : length (slot (overwrite image (j * slot_size image) new) k) ≡ slot_size image
      long = length_slot (overwrite image (j * slot_size image) new) k lk ∙ put_size

      each : (i : ℕ) → i < length (slot (overwrite image (j * slot_size image) new) k) → get_or (slot (overwrite image (j * slot_size image) new) k) i 0 ≡ get_or (slot image k) i 0
      each i lt = put_at k i below ∙ by (dec_lt k j) ∙ sym (slot_at image k i below)
        where
          below : i < slot_size image
          below = omega (arith, long)

          by : Dec (k < j) → get_or (overwrite image (j * slot_size image) new) (k * slot_size image + i) 0 ≡ get_or image (k * slot_size image + i) 0
          by (yes x) = overwrite_before image (j * slot_size image) new (omega (arith, fits)) (k * slot_size image + i) (omega (arith, row_before k j (slot_size image) x, below))
          by (no x) =
              overwrite_after image (j * slot_size image) new (omega (arith, fits)) (k * slot_size image + i)
              (omega (arith, row_before j k (slot_size image) (omega arith), whole))
