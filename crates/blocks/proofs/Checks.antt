-- The check of a block of which one word has changed.
use Rattle.std.proofs.Common.{◌≡◌, ℕ, zero, suc, ◌+◌, ◌-◌, ◌*◌, ◌%◌, ◌^◌, ◌<◌, ◌≤◌, List, length, sym, ap, ◌∙◌, ap₂, ⊎_elim, mul-add, arith}
use Rattle.std.proofs.Math.Nat.{add-mul-mod_self_right, mod-add-mod, add-mod-mod}
use Rattle.std.proofs.lemmas.Nat.{mul-mod_second}
use Rattle.std.proofs.lemmas.Bool.{cases_eq}
use Rattle.image.specs.Words.{put_word}
use Rattle.image.specs.Blocks.{weighted, check, block_word}
use Rattle.blocks.specs.Layout.{rewritten}
use Rattle.image.proofs.Bytes.{word_put_same, word_put_other}
use Rattle.image.proofs.Format.{weighted_same}

-- sums that differ in one term
changed : (f g : ℕ → ℕ) (i n : ℕ) → i < n → ((j : ℕ) → (j ≡ i → ⊥) → g j ≡ f j)
    → weighted g n + (2 * i + 1) * f i ≡ weighted f n + (2 * i + 1) * g i
changed f g i zero h same = absurd (omega arith)
changed f g i (suc n) h same = ⊎_elim here (before (λ l. changed f g i n l same)) (cases_eq n i)
  where
    swap : (a x y : ℕ) → a + x + y ≡ a + y + x
    swap a x y = omega arith

    here : n ≡ i → weighted g (suc n) + (2 * i + 1) * f i ≡ weighted f (suc n) + (2 * i + 1) * g i
    here e =
        let s = weighted_same g f n (λ j l. same j (λ q. omega arith)) in
        rw (s, e) (swap (weighted f i) ((2 * i + 1) * g i) ((2 * i + 1) * f i))

    last : (a b x y t : ℕ) → a + x ≡ b + y → a + t + x ≡ b + t + y
    last a b x y t e = omega arith

    before : (i < n → weighted g n + (2 * i + 1) * f i ≡ weighted f n + (2 * i + 1) * g i) → (n ≡ i → ⊥)
        → weighted g (suc n) + (2 * i + 1) * f i ≡ weighted f (suc n) + (2 * i + 1) * g i
    before less ne =
        let p = less (omega arith) in
        let q = same n ne in
        rw q (last (weighted g n) (weighted f n) ((2 * i + 1) * f i) ((2 * i + 1) * g i) ((2 * n + 1) * f n) p)

-- the difference that one term makes
difference : (a b m x y p : ℕ) → b + m * x ≡ a + m * y → x ≤ p → a + m * (y + p - x) ≡ b + m * p
difference a b m x y p e h =
    let d : y + p - x + x ≡ y + p = omega arith in
    let q : m * (y + p - x) + m * x ≡ m * y + m * p = sym (mul-add m (y + p - x) x) ∙ ap (λ (k : ℕ). m * k) d ∙ mul-add m y p in
    joined (m * (y + p - x)) (m * x) (m * y) (m * p) e q
  where
    joined : (u v w z : ℕ) → b + v ≡ a + w → u + v ≡ w + z → a + u ≡ b + z
    joined u v w z e q = omega arith

updated : (a b m x y p : ℕ) → b + m * x ≡ a + m * y → x ≤ p → (a % p + m * ((y + p - x) % p) % p) % p ≡ b % p
updated a b m x y p e h =
    ap (λ (k : ℕ). (a % p + k) % p) (mul-mod_second m (y + p - x) p)
    ∙ mod-add-mod a p (m * (y + p - x) % p)
    ∙ add-mod-mod a (m * (y + p - x)) p
    ∙ ap (λ (k : ℕ). k % p) (difference a b m x y p e h)
    ∙ add-mul-mod_self_right b m p

-- the sum over a block in which another word was put at place i, in the place of x
summed : (s : List ℕ) (b i w x : ℕ) → i < 127 → 4 * (128 * b + i) + 4 ≤ length s → w < 2 ^ 32 → x ≡ block_word s b i
    → weighted (block_word (put_word s (128 * b + i) w) b) 127 + (2 * i + 1) * x ≡ weighted (block_word s b) 127 + (2 * i + 1) * w
summed s b i w x h l m old =
    ap (λ (j : ℕ). weighted (block_word (put_word s (128 * b + i) w) b) 127 + (2 * i + 1) * j) old
    ∙ changed (block_word s b) (block_word (put_word s (128 * b + i) w) b) i 127 h (λ j ne. word_put_other s (128 * b + i) w (128 * b + j) (apart b i j ne))
    ∙ ap (λ (j : ℕ). weighted (block_word s b) 127 + (2 * i + 1) * j) (word_put_same s (128 * b + i) w l m)
  where
    apart : (b i j : ℕ) → (j ≡ i → ⊥) → 128 * b + j ≡ 128 * b + i → ⊥
    apart b i j ne q = ne (omega arith)

-- its check, worked out from the word x that stood there and the check k
check_updated : (s : List ℕ) (b i w x k v : ℕ) → i < 127 → 4 * (128 * b + i) + 4 ≤ length s → w < 2 ^ 32 → x ≤ 2 ^ 32 → x ≡ block_word s b i
    → k ≡ check (block_word s b) → v ≡ (k + (2 * i + 1) * ((w + 2 ^ 32 - x) % 2 ^ 32) % 2 ^ 32) % 2 ^ 32 → v ≡ check (block_word (put_word s (128 * b + i) w) b)
unfolding check
check_updated s b i w x k v h l m small old right e =
    e ∙ ap (λ (j : ℕ). (j + (2 * i + 1) * ((w + 2 ^ 32 - x) % 2 ^ 32) % 2 ^ 32) % 2 ^ 32) right
    ∙ updated (weighted (block_word s b) 127) (weighted (block_word (put_word s (128 * b + i) w) b) 127) (2 * i + 1) x w (2 ^ 32) (summed s b i w x h l m old) small

-- a word put at place i of block b, and then the check worked out
pub rewritten_so : (s one t : List ℕ) (b i w x k v : ℕ) → i < 127 → 512 * b + 512 ≤ length s → w < 2 ^ 32 → x ≤ 2 ^ 32 → x ≡ block_word s b i
    → k ≡ check (block_word s b) → v ≡ (k + (2 * i + 1) * ((w + 2 ^ 32 - x) % 2 ^ 32) % 2 ^ 32) % 2 ^ 32
    → one ≡ put_word s (128 * b + i) w → t ≡ put_word one (128 * b + 127) v → t ≡ rewritten s b i w
rewritten_so s one t b i w x k v h l m small old right e first second =
    second ∙ ap₂ (λ (u : List ℕ) (j : ℕ). put_word u (128 * b + 127) j) first (check_updated s b i w x k v h (omega arith) m small old right e)
