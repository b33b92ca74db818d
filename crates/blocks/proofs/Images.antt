-- The same image with other data words: it opens, and every byte of it is fixed.
use Rattle.std.proofs.Common.{◌≡◌, ℕ, zero, suc, ◌+◌, ◌-◌, ◌*◌, ◌/◌, ◌%◌, ◌^◌, ◌<◌, ◌≤◌, Bool, true, false, cond, ltb, leb, List, length, get_or, Ok, sym, refl, ap, ◌∙◌, subst, ⊎_elim, add-zero, zero-add, arith, ltb-true, eqb-true, leb-true}
use Rattle.std.proofs.lemmas.List.FromFn.{length-map-range_with_len, get_or-map-range_with_len}
use Rattle.std.proofs.lemmas.List.{ext_get_or, get_or_past}
use Rattle.std.proofs.lemmas.Bool.{cases_lt, cond-false, and_parts, or_cases}
use Rattle.isa.specs.Programs.{LawfulProgram}
use Rattle.image.specs.Words.{word_at}
use Rattle.image.specs.Blocks.{check, block_word, pages, place_from, AllSound}
use Rattle.image.specs.Format.{Contents, length_in, size_in, depth_in, data_block, word_from, words_from, program_in, data_in, contents_in}
use Rattle.image.specs.Whole.{RightLength, RightCounts, IsWhole}
use Rattle.image.specs.Opening.{Opening}
use Rattle.image.proofs.Contents.{length_words, word_here}
use Rattle.image.proofs.Format.{check_same}
use Rattle.image.proofs.Openings.{says, whole_opens}
use Rattle.blocks.specs.Layout.{is_data, is_check, is_open, others, Checked, SameImage, with_words, Bytes, Pinned, OpensWith}
use Rattle.blocks.proofs.Ranges.{contents_size}
use Rattle.blocks.proofs.Changes.{closed_before, closed_number}

-- equal others mean equal length and equal bytes where no write goes
module _ (f n : ℕ) (s t : List ℕ) (e : others f n t ≡ others f n s) where
  others_long : length t ≡ length s
  others_long =
      let a = length-map-range_with_len (λ (k : ℕ). cond (is_open f n (k / 4)) 0 (get_or t k 0)) 0 (length t) in
      let b = length-map-range_with_len (λ (k : ℕ). cond (is_open f n (k / 4)) 0 (get_or s k 0)) 0 (length s) in
      sym a ∙ ap length e ∙ b

  others_rest : (k : ℕ) → is_open f n (k / 4) ≡ false → get_or t k 0 ≡ get_or s k 0
  others_rest k o = ⊎_elim inside outside (cases_lt k (length s))
    where
      shown : (u : List ℕ) → k < length u → get_or (others f n u) k 0 ≡ get_or u k 0
      shown u h = get_or-map-range_with_len (λ (j : ℕ). cond (is_open f n (j / 4)) 0 (get_or u j 0)) 0 (length u) k k 0 h (zero-add k) ∙ cond-false (is_open f n (k / 4)) 0 (get_or u k 0) o

      inside : k < length s → get_or t k 0 ≡ get_or s k 0
      inside h = let l = others_long in sym (shown t (omega arith)) ∙ ap (λ (u : List ℕ). get_or u k 0) e ∙ shown s h

      outside : length s ≤ k → get_or t k 0 ≡ get_or s k 0
      outside h = let l = others_long in get_or_past t k 0 (omega arith) ∙ sym (get_or_past s k 0 h)

-- the bytes of a block memory after any calls
pub same_image : (f n : ℕ) (s t ws : List ℕ) → words_from t f n ≡ ws → others f n t ≡ others f n s → Checked f n t → SameImage f s t ws
same_image f n s t ws e o c =
    let l : length ws ≡ n = ap length (sym e) ∙ length_words t f n in
    record {
      long = others_long f n s t o;
      data_words = ap (words_from t f) l ∙ e;
      checked = subst (λ (m : ℕ). Checked f m t) (sym l) c;
      rest = subst (λ (m : ℕ). (k : ℕ) → is_open f m (k / 4) ≡ false → get_or t k 0 ≡ get_or s k 0) (sym l) (others_rest f n s t o);
    }

-- a word that no write may change
same_word : (f n : ℕ) (s t : List ℕ) → ((k : ℕ) → is_open f n (k / 4) ≡ false → get_or t k 0 ≡ get_or s k 0) → (i : ℕ) → is_open f n i ≡ false
    → word_at t i ≡ word_at s i
same_word f n s t rest i o =
    let a = byte (4 * i) (omega arith) in
    let b = byte (4 * i + 1) (omega arith) in
    let c = byte (4 * i + 2) (omega arith) in
    let d = byte (4 * i + 3) (omega arith) in
    rw (a, b, c, d)
  where
    byte : (k : ℕ) → k / 4 ≡ i → get_or t k 0 ≡ get_or s k 0
    byte k e = rest k (ap (is_open f n) e ∙ o)

module _ (s t ws : List ℕ) (whole : IsWhole s) (many : length ws ≡ size_in s) (same : SameImage (data_block s) s t ws) where
  kept : (b i : ℕ) → b < data_block s → i < 128 → word_at t (128 * b + i) ≡ word_at s (128 * b + i)
  kept b i h l = same_word (data_block s) (length ws) s t same.rest (128 * b + i) (closed_before (data_block s) (length ws) b i h l)

  header : (i : ℕ) → i < 128 → word_at t i ≡ word_at s i
  header i h = let e : 128 * 0 + i ≡ i = omega arith in ap (word_at t) (sym e) ∙ kept 0 i (omega arith) h ∙ ap (word_at s) e

  same_length : length_in t ≡ length_in s
  same_length = header 1 (omega arith)

  same_size : size_in t ≡ size_in s
  same_size = header 2 (omega arith)

  same_depth : depth_in t ≡ depth_in s
  same_depth = header 3 (omega arith)

  same_program : program_in t ≡ program_in s
  same_program =
      let a = length_words t 1 (length_in s) in
      let b = length_words s 1 (length_in s) in
      ap (words_from t 1) same_length
      ∙ ext_get_or 0 (words_from t 1 (length_in s)) (words_from s 1 (length_in s)) (a ∙ sym b)
      (λ p l.
      let m : p < length_in s = subst (λ (j : ℕ). p < j) a l in
      word_here t 1 (length_in s) p m ∙ kept (1 + p / 126) (1 + p % 126) (omega arith) (omega arith) ∙ sym (word_here s 1 (length_in s) p m))

  data_held : data_in t ≡ ws
  data_held = ap (λ (n : ℕ). words_from t (1 + pages n) (size_in t)) same_length ∙ ap (words_from t (data_block s)) (same_size ∙ sym many) ∙ same.data_words

  still_long : RightLength t
  still_long =
      let l = same.long in
      let r = whole.long in
      record { some = omega (arith, r.some); most = omega (arith, r.most); whole = rw l r.whole }

  still_counts : RightCounts t
  still_counts =
      let r = whole.counts in
      record {
        short = rw same_length r.short;
        small = rw same_size r.small;
        deep = rw same_depth r.deep;
        shallow = rw same_depth r.shallow;
        blocks = rw (same_length, same_size) (same.long ∙ r.blocks);
      }

  still_sound : AllSound t
  still_sound b h =
      let l = same.long in
      let g : b < length s / 512 = omega arith in
      record { number = number g; checked = ⊎_elim (before g) (after g) (cases_lt b (data_block s)) }
    where
      number : b < length s / 512 → block_word t b 0 ≡ b
      number g = same_word (data_block s) (length ws) s t same.rest (128 * b + 0) (closed_number (data_block s) (length ws) b) ∙ (whole.sound b g).number

      before : b < length s / 512 → b < data_block s → block_word t b 127 ≡ check (block_word t b)
      before g u =
          kept b 127 u (omega arith) ∙ (whole.sound b g).checked ∙ check_same (block_word s b) (block_word t b) (λ j v. sym (kept b j u (omega arith)))

      after : b < length s / 512 → data_block s ≤ b → block_word t b 127 ≡ check (block_word t b)
      after g u =
          let c = whole.counts.blocks in
          let e : data_block s + (b - data_block s) ≡ b = omega arith in
          subst (λ (k : ℕ). block_word t k 127 ≡ check (block_word t k)) e (same.checked (b - data_block s) (rw many (omega arith)))

  whole_still : IsWhole t
  whole_still = record { long = still_long; sound = still_sound; counts = still_counts; program = subst LawfulProgram (sym same_program) whole.program }

  contents_still : contents_in t ≡ with_words (contents_in s) ws
  contents_still = rw (same_program, data_held, same_depth)

  opens_whole : Opening t (Ok (with_words (contents_in s) ws))
  opens_whole = subst (λ (d : Contents). Opening t (Ok d)) contents_still (whole_opens t whole_still)

  pub data_block_still : data_block t ≡ data_block s
  data_block_still = ap (λ (n : ℕ). 1 + pages n) same_length

  pub size_still : size_in t ≡ size_in s
  size_still = same_size

-- an image with other data words opens, and holds what it held but for these
pub still_opens : OpensWith
still_opens s t ws c o n same =
    let w = says s o in
    subst (λ (d : Contents). Opening t (Ok (with_words d ws))) (sym w.1) (opens_whole s t ws w.0 (n ∙ contents_size s c w.1) same)

-- a byte of a word, the other bytes being what they may
same_bytes : (a b c d x y z u : ℕ) → a < 256 → b < 256 → c < 256 → d < 256 → x < 256 → y < 256 → z < 256 → u < 256
    → a * 2 ^ 24 + b * 2 ^ 16 + c * 2 ^ 8 + d ≡ x * 2 ^ 24 + y * 2 ^ 16 + z * 2 ^ 8 + u → (a ≡ x) × (b ≡ y) × (c ≡ z) × (d ≡ u)
same_bytes a b c d x y z u p q r o i j k l e = (omega arith, omega arith, omega arith, omega arith)

same_byte : (t u : List ℕ) → Bytes t → Bytes u → (i r : ℕ) → r < 4 → word_at t i ≡ word_at u i → get_or t (4 * i + r) 0 ≡ get_or u (4 * i + r) 0
same_byte t u bt bu i r h e =
    on r h (same_bytes _ _ _ _ _ _ _ _ (bt (4 * i)) (bt (4 * i + 1)) (bt (4 * i + 2)) (bt (4 * i + 3)) (bu (4 * i)) (bu (4 * i + 1)) (bu (4 * i + 2)) (bu (4 * i + 3)) e)
  where
    on : (r : ℕ) → r < 4
        → (get_or t (4 * i) 0 ≡ get_or u (4 * i) 0) × (get_or t (4 * i + 1) 0 ≡ get_or u (4 * i + 1) 0) × (get_or t (4 * i + 2) 0 ≡ get_or u (4 * i + 2) 0) × (get_or t (4 * i + 3) 0 ≡ get_or u (4 * i + 3) 0)
        → get_or t (4 * i + r) 0 ≡ get_or u (4 * i + r) 0
    on zero h p = rw (add-zero (4 * i)) p.0
    on (suc zero) h p = p.1
    on (suc (suc zero)) h p = p.2
    on (suc (suc (suc zero))) h p = p.3
    on (suc (suc (suc (suc r)))) h p = absurd (omega arith)

-- the place that an open word has
data_place : (f n i : ℕ) → is_data f n (i / 128) (i % 128) ≡ true → (126 * (i / 128 - f) + (i % 128 - 1) < n) × (place_from f (126 * (i / 128 - f) + (i % 128 - 1)) ≡ i)
data_place f n i e =
    let a = and_parts (leb f (i / 128)) _ e in
    let b = and_parts (ltb 0 (i % 128)) _ a.1 in
    let c = and_parts (ltb (i % 128) 127) _ b.1 in
    let p = leb-true f (i / 128) a.0 in
    let q = ltb-true 0 (i % 128) b.0 in
    let r = ltb-true (i % 128) 127 c.0 in
    (ltb-true (126 * (i / 128 - f) + (i % 128 - 1)) n c.1, omega arith)

check_place : (f n i : ℕ) → is_check f n (i / 128) (i % 128) ≡ true → (i / 128 - f < pages n) × (128 * (f + (i / 128 - f)) + 127 ≡ i)
check_place f n i e =
    let a = and_parts (leb f (i / 128)) _ e in
    let b = and_parts (ltb (i / 128) (f + pages n)) _ a.1 in
    let p = leb-true f (i / 128) a.0 in
    let q = ltb-true (i / 128) (f + pages n) b.0 in
    let r = eqb-true (i % 128) 127 b.1 in
    (omega arith, omega arith)

open_inner : (f n i : ℕ) → i % 128 < 127 → is_open f n i ≡ true → is_data f n (i / 128) (i % 128) ≡ true
open_inner f n i h e =
    ⊎_elim (λ d. d) (λ c. let p = check_place f n i c in absurd (omega (arith, p.1)))
    (or_cases (is_data f n (i / 128) (i % 128)) (is_check f n (i / 128) (i % 128)) e)

-- two byte strings that are both the same image with these data words
module _ (f : ℕ) (s t u ws : List ℕ) (left : SameImage f s t ws) (right : SameImage f s u ws) where
  same_data : (p : ℕ) → p < length ws → word_from t f p ≡ word_from u f p
  same_data p h =
      sym (word_here t f (length ws) p h)
      ∙ ap (λ (vs : List ℕ). get_or vs p 0) (left.data_words ∙ sym right.data_words)
      ∙ word_here u f (length ws) p h

  closed_word : (i : ℕ) → is_open f (length ws) i ≡ false → word_at t i ≡ word_at u i
  closed_word i o = same_word f (length ws) s t left.rest i o ∙ sym (same_word f (length ws) s u right.rest i o)

  data_at : (i : ℕ) → is_data f (length ws) (i / 128) (i % 128) ≡ true → word_at t i ≡ word_at u i
  data_at i d =
      let e = data_place f (length ws) i d in
      subst (λ (k : ℕ). word_at t k ≡ word_at u k) e.1 (same_data (126 * (i / 128 - f) + (i % 128 - 1)) e.0)

  inner_word : (i : ℕ) → i % 128 < 127 → word_at t i ≡ word_at u i
  inner_word i h = on (is_open f (length ws) i) refl
    where
      on : (b : Bool) → is_open f (length ws) i ≡ b → word_at t i ≡ word_at u i
      on true e = data_at i (open_inner f (length ws) i h e)
      on false e = closed_word i e

  check_at : (i : ℕ) → is_check f (length ws) (i / 128) (i % 128) ≡ true → word_at t i ≡ word_at u i
  check_at i c =
      let e = check_place f (length ws) i c in
      subst (λ (k : ℕ). word_at t k ≡ word_at u k) e.1
      (left.checked (i / 128 - f) e.0
      ∙ check_same (block_word t (f + (i / 128 - f))) (block_word u (f + (i / 128 - f))) (λ j h. inner_word (128 * (f + (i / 128 - f)) + j) (omega arith))
      ∙ sym (right.checked (i / 128 - f) e.0))

  any_word : (i : ℕ) → word_at t i ≡ word_at u i
  any_word i = on (is_open f (length ws) i) refl
    where
      on : (b : Bool) → is_open f (length ws) i ≡ b → word_at t i ≡ word_at u i
      on true e = ⊎_elim (data_at i) (check_at i) (or_cases (is_data f (length ws) (i / 128) (i % 128)) (is_check f (length ws) (i / 128) (i % 128)) e)
      on false e = closed_word i e

pub pinned : Pinned
pinned f s t u ws bt bu left right =
    ext_get_or 0 t u (left.long ∙ sym right.long)
    (λ k l.
    let e : 4 * (k / 4) + k % 4 ≡ k = omega arith in
    subst (λ (j : ℕ). get_or t j 0 ≡ get_or u j 0) e (same_byte t u bt bu (k / 4) (k % 4) (omega arith) (any_word f s t u ws left right (k / 4))))
