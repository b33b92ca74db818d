-- What a change of one data word leaves: the data words, the checks and the other bytes.
use Rattle.std.proofs.Common.{◌≡◌, ℕ, ◌+◌, ◌*◌, ◌/◌, ◌%◌, ◌^◌, ◌<◌, ◌≤◌, Bool, true, false, cond, ◌||◌, ◌⊎◌, List, length, get_or, set, sym, refl, ap, ◌∙◌, subst, ⊎_elim, mod-lt, zero-add, arith, lit<, length-set, get_or-set_other, get_or-set_same}
use Rattle.std.proofs.lemmas.Bool.{both_ways, cases_eq, or_left, or_right}
use Rattle.std.proofs.lemmas.List.FromFn.{length-map-range_with_len, get_or-map-range_with_len}
use Rattle.std.proofs.lemmas.List.{ext_get_or}
use Rattle.std.proofs.lemmas.Bool.Decides.{nat_tests}
use Rattle.image.specs.Words.{word_at, put_word}
use Rattle.image.specs.Blocks.{weighted, check, block_word, pages, place_from}
use Rattle.image.specs.Format.{words_from}
use Rattle.image.proofs.Bytes.{put_other, word_put_same, word_put_other, length_put}
use Rattle.image.proofs.Contents.{length_words, word_here}
use Rattle.image.proofs.Format.{check_same}
use Rattle.blocks.specs.Layout.{block_of, place_of, is_data, is_check, is_open, others, Checked, rewritten}

check_small : (words : ℕ → ℕ) → check words < 2 ^ 32
unfolding check
check_small words = mod-lt (weighted words 127) (lit< tt)

-- bytes s, and bytes t in which word i of block b is w and the block's check is right again
pub record Changed (s t : List ℕ) (b i w : ℕ) : Type 0 where
  pub long : length t ≡ length s
  pub here : block_word t b i ≡ w
  pub checked : block_word t b 127 ≡ check (block_word t b)
  pub elsewhere : (k : ℕ) → (k ≡ 128 * b + i → ⊥) → (k ≡ 128 * b + 127 → ⊥) → word_at t k ≡ word_at s k
  pub bytes : (k : ℕ) → (k / 4 ≡ 128 * b + i → ⊥) → (k / 4 ≡ 128 * b + 127 → ⊥) → get_or t k 0 ≡ get_or s k 0

rewritten_changed : (s : List ℕ) (b i w : ℕ) → i < 127 → 512 * b + 512 ≤ length s → w < 2 ^ 32 → Changed s (rewritten s b i w) b i w
rewritten_changed s b i w h l m =
    record {
      long = length_put one (128 * b + 127) v ∙ length_put s (128 * b + i) w;
      here = word_put_other one (128 * b + 127) v (128 * b + i) (λ q. apart q) ∙ word_put_same s (128 * b + i) w (omega arith) m;
      checked = word_put_same one (128 * b + 127) v room (check_small (block_word one b)) ∙ same;
      elsewhere = λ k p q. word_put_other one (128 * b + 127) v k q ∙ word_put_other s (128 * b + i) w k p;
      bytes = λ k p q. put_other one (128 * b + 127) v k q ∙ put_other s (128 * b + i) w k p;
    }
  where
    one : List ℕ
    one = put_word s (128 * b + i) w

    v : ℕ
    v = check (block_word one b)

    apart : 128 * b + i ≡ 128 * b + 127 → ⊥
    apart q = omega arith

    room : 4 * (128 * b + 127) + 4 ≤ length one
    room = let n = length_put s (128 * b + i) w in omega arith

    same : check (block_word one b) ≡ check (block_word (rewritten s b i w) b)
    same = check_same (block_word one b) (block_word (rewritten s b i w) b) (λ j g. sym (word_put_other one (128 * b + 127) v (128 * b + j) (λ q. let z : ⊥ = omega arith in z)))

-- the change that a write of data word p makes
pub write_changed : (s t : List ℕ) (f n p w : ℕ) → p < n → 512 * (f + pages n) ≤ length s → w < 2 ^ 32 → t ≡ rewritten s (block_of f p) (place_of p) w
    → Changed s t (block_of f p) (place_of p) w
write_changed s t f n p w h l m e =
    subst (λ (u : List ℕ). Changed s u (block_of f p) (place_of p) w) (sym e) (rewritten_changed s (block_of f p) (place_of p) w (omega arith) (omega arith) m)

-- which words of a block a write may change
at_block : (f n b i : ℕ) → i < 128 → is_open f n (128 * b + i) ≡ (is_data f n b i || is_check f n b i)
at_block f n b i h =
    let p : (128 * b + i) / 128 ≡ b = omega arith in
    let q : (128 * b + i) % 128 ≡ i = omega arith in
    rw (p, q)

pub data_open : (f n p : ℕ) → p < n → is_open f n (place_from f p) ≡ true
data_open f n p h = at_block f n (f + p / 126) (1 + p % 126) (omega arith) ∙ or_left (is_data f n (f + p / 126) (1 + p % 126)) (is_check f n (f + p / 126) (1 + p % 126)) (grind (arith, nat_tests))

pub check_open : (f n b : ℕ) → b < pages n → is_open f n (128 * (f + b) + 127) ≡ true
check_open f n b h = at_block f n (f + b) 127 (omega arith) ∙ or_right (is_data f n (f + b) 127) (is_check f n (f + b) 127) (grind (arith, nat_tests))

pub closed_before : (f n b i : ℕ) → b < f → i < 128 → is_open f n (128 * b + i) ≡ false
closed_before f n b i h l = at_block f n b i l ∙ grind (arith, nat_tests)

pub closed_number : (f n b : ℕ) → is_open f n (128 * b + 0) ≡ false
closed_number f n b = at_block f n b 0 (omega arith) ∙ grind (arith, nat_tests)

-- two data words stand apart, and none stands at a check
places_apart : (f p q : ℕ) → (p ≡ q → ⊥) → place_from f p ≡ place_from f q → ⊥
places_apart f p q ne e = ne (omega arith)

place_no_check : (f p b : ℕ) → place_from f p ≡ 128 * b + 127 → ⊥
place_no_check f p b e = omega arith

-- data word p changed: b is its block
module _ (s t : List ℕ) (f n p w : ℕ) (h : p < n) (change : Changed s t (block_of f p) (place_of p) w) where
  pub words_changed : words_from t f n ≡ set (words_from s f n) p w
  words_changed =
      let a = length_words t f n in
      let b = length_words s f n in
      let c = length-set (words_from s f n) p w in
      ext_get_or 0 (words_from t f n) (set (words_from s f n) p w) (omega arith) (λ q l. at q (omega arith) (cases_eq q p))
    where
      at : (q : ℕ) → q < n → ((q ≡ p) ⊎ (q ≡ p → ⊥)) → get_or (words_from t f n) q 0 ≡ get_or (set (words_from s f n) p w) q 0
      at q l =
          ⊎_elim
          (λ (e : q ≡ p).
          let b = length_words s f n in
          subst (λ (j : ℕ). get_or (words_from t f n) j 0 ≡ get_or (set (words_from s f n) p w) j 0) (sym e)
          (word_here t f n p h ∙ change.here ∙ sym (get_or-set_same (words_from s f n) p w 0 (omega arith))))
          (λ (e : q ≡ p → ⊥).
          word_here t f n q l
          ∙ change.elsewhere (place_from f q) (places_apart f q p e) (place_no_check f q (block_of f p))
          ∙ sym (get_or-set_other (words_from s f n) p q w 0 e ∙ word_here s f n q l))

  pub checked_changed : Checked f n s → Checked f n t
  checked_changed before b l = on (cases_eq b (p / 126))
    where
      far : (b ≡ p / 126 → ⊥) → (j i : ℕ) → j < 128 → i < 128 → 128 * (f + b) + j ≡ 128 * (f + p / 126) + i → ⊥
      far ne j i u v e = ne (omega arith)

      kept : (b ≡ p / 126 → ⊥) → (j : ℕ) → j < 128 → block_word t (f + b) j ≡ block_word s (f + b) j
      kept ne j u = change.elsewhere (128 * (f + b) + j) (far ne j (place_of p) u (omega arith)) (far ne j 127 u (omega arith))

      on : ((b ≡ p / 126) ⊎ (b ≡ p / 126 → ⊥)) → block_word t (f + b) 127 ≡ check (block_word t (f + b))
      on =
          ⊎_elim
          (λ (e : b ≡ p / 126). subst (λ (k : ℕ). block_word t (f + k) 127 ≡ check (block_word t (f + k))) (sym e) change.checked)
          (λ (e : b ≡ p / 126 → ⊥).
          kept e 127 (omega arith) ∙ before b l ∙ check_same (block_word s (f + b)) (block_word t (f + b)) (λ j u. sym (kept e j (omega arith))))

  pub others_changed : others f n t ≡ others f n s
  others_changed =
      let a = length-map-range_with_len (λ (k : ℕ). cond (is_open f n (k / 4)) 0 (get_or t k 0)) 0 (length t) in
      let b = length-map-range_with_len (λ (k : ℕ). cond (is_open f n (k / 4)) 0 (get_or s k 0)) 0 (length s) in
      let c = change.long in
      ext_get_or 0 (others f n t) (others f n s) (a ∙ c ∙ sym b)
      (λ k l.
      let m : k < length t = subst (λ (j : ℕ). k < j) a l in
      let o : k < length s = subst (λ (j : ℕ). k < j) c m in
      get_or-map-range_with_len (λ (k : ℕ). cond (is_open f n (k / 4)) 0 (get_or t k 0)) 0 (length t) k k 0 m (zero-add k)
      ∙ on k (is_open f n (k / 4)) refl
      ∙ sym (get_or-map-range_with_len (λ (k : ℕ). cond (is_open f n (k / 4)) 0 (get_or s k 0)) 0 (length s) k k 0 o (zero-add k)))
    where
      on : (k : ℕ) (o : Bool) → is_open f n (k / 4) ≡ o → cond o 0 (get_or t k 0) ≡ cond o 0 (get_or s k 0)
      on k true e = refl
      on k false e =
          change.bytes k
          (λ q. both_ways (is_open f n (k / 4)) e (ap (is_open f n) q ∙ data_open f n p h))
          (λ q. both_ways (is_open f n (k / 4)) e (ap (is_open f n) q ∙ check_open f n (p / 126) (omega arith)))
