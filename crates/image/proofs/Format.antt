-- What stands in a written image, word by word.
use Rattle.std.proofs.Common.{◌≡◌, ℕ, zero, suc, ◌+◌, ◌-◌, ◌*◌, ◌/◌, ◌%◌, ◌^◌, ◌<◌, ◌≤◌, Bool, true, false, cond, eqb, ltb, List, [], ◌∷◌, length, get_or, sym, refl, ap, ◌∙◌, mod-lt, arith, lit<, rules, lt-ltb}
use Rattle.std.proofs.Math.ListN.{get_or-map}
use Rattle.std.proofs.lemmas.List.{length-map}
use Rattle.isa.specs.Words.{cleared}
use Rattle.isa.proofs.Words.{cleared_small}
use Rattle.image.specs.Words.{byte_of}
use Rattle.image.specs.Blocks.{weighted, check, block_word, pages}
use Rattle.image.specs.Format.{Contents, content, unchecked_word, image_word, whole_word}
use Rattle.image.specs.Writing.{given, Held, Laid}
use Rattle.image.proofs.Bytes.{read_bytes}

-- every number that the image holds has 32 bits
pub record Small (c : Contents) : Type 0 where
  pub program : (k : ℕ) → get_or c.program k 0 < 2 ^ 32
  pub words : (k : ℕ) → get_or c.words k 0 < 2 ^ 32
  pub program_length : length c.program < 2 ^ 32
  pub words_length : length c.words < 2 ^ 32
  pub depth : c.depth < 2 ^ 32

header_small : (l s d j : ℕ) → l < 2 ^ 32 → s < 2 ^ 32 → d < 2 ^ 32 → get_or (l ∷ s ∷ d ∷ []) j 0 < 2 ^ 32
header_small l s d zero a b c = a
header_small l s d (suc zero) a b c = b
header_small l s d (suc (suc zero)) a b c = c
header_small l s d (suc (suc (suc j))) a b c = lit< tt

either_small : (t : Bool) (x y : ℕ) → x < 2 ^ 32 → y < 2 ^ 32 → cond t x y < 2 ^ 32
either_small true x y p q = p
either_small false x y p q = q

content_small : (c : Contents) → Small c → (b j : ℕ) → content c b j < 2 ^ 32
content_small c h b j =
    either_small (eqb b 0) _ _ (header_small _ _ _ j h.program_length h.words_length h.depth)
    (either_small (ltb (b - 1) (pages (length c.program))) _ _ (h.program (126 * (b - 1) + j)) (h.words (126 * (b - 1 - pages (length c.program)) + j)))

word_small : (c : Contents) → Small c → (b i : ℕ) → b < 2 ^ 32 → image_word c b i < 2 ^ 32
unfolding image_word check
word_small c h b i l =
    either_small (eqb i 127) _ _ (mod-lt (weighted (unchecked_word c b) 127) (lit< tt)) (either_small (eqb i 0) _ _ l (content_small c h b (i - 1)))

-- sums over the same words
pub weighted_same : (f g : ℕ → ℕ) (n : ℕ) → ((i : ℕ) → i < n → f i ≡ g i) → weighted f n ≡ weighted g n
weighted_same f g zero h = refl
weighted_same f g (suc n) h =
    let p = weighted_same f g n (λ i l. h i (omega arith)) in
    let q = h n (omega arith) in
    rw (p, q)

pub check_same : (f g : ℕ → ℕ) → ((i : ℕ) → i < 127 → f i ≡ g i) → check f ≡ check g
unfolding check
check_same f g h = ap (λ (n : ℕ). n % 2 ^ 32) (weighted_same f g 127 h)

-- the word at a place of a block
pub whole_at : (c : Contents) (b i : ℕ) → i < 128 → whole_word c (128 * b + i) ≡ image_word c b i
whole_at c b i h =
    let p : (128 * b + i) / 128 ≡ b = omega arith in
    let q : (128 * b + i) % 128 ≡ i = omega arith in
    rw (p, q)

pub plain_at : (c : Contents) (b i : ℕ) → i < 127 → image_word c b i ≡ unchecked_word c b i
unfolding image_word
plain_at c b i h = let n : eqb i 127 ≡ false = search rules in rw n

pub first_at : (c : Contents) (b : ℕ) → image_word c b 0 ≡ b
first_at c b = plain_at c b 0 (lit< tt)

pub inner_at : (c : Contents) (b i : ℕ) → 0 < i → i < 127 → image_word c b i ≡ content c b (i - 1)
inner_at c b i p h = let n : eqb i 0 ≡ false = search rules in plain_at c b i h ∙ rw n

pub last_at : (c : Contents) (b : ℕ) → image_word c b 127 ≡ check (unchecked_word c b)
unfolding image_word
last_at c b = refl

-- the check of a block whose words were written
pub check_held : (c : Contents) (b n : ℕ) (bytes : List ℕ) → Held c n bytes → 128 * b + 127 ≤ n → check (block_word bytes b) ≡ image_word c b 127
check_held c b n bytes h l =
    check_same (block_word bytes b) (unchecked_word c b) (λ i m. h (128 * b + i) (omega arith) ∙ whole_at c b i (omega arith) ∙ plain_at c b i m) ∙ sym (last_at c b)

-- word i of the image, by its place in its block
pub number_word : (c : Contents) (i : ℕ) → i % 128 ≡ 0 → i / 128 ≡ whole_word c i
number_word c i e = rw e (sym (first_at c (i / 128)))

pub content_word : (c : Contents) (i : ℕ) → 0 < i % 128 → i % 128 < 127 → content c (i / 128) (i % 128 - 1) ≡ whole_word c i
content_word c i p h = sym (inner_at c (i / 128) (i % 128) p h)

pub check_word : (c : Contents) (i : ℕ) (bytes : List ℕ) → Held c i bytes → i % 128 ≡ 127 → check (block_word bytes (i / 128)) ≡ whole_word c i
check_word c i bytes h e = rw e (check_held c (i / 128) i bytes h (omega arith))

-- what was laid is read back
pub laid_held : (c : Contents) (n : ℕ) (before s : List ℕ) → Small c → n ≤ 2 ^ 32 → Laid c n before s → Held c n s
laid_held c n before s small most h i l =
    read_bytes s i (whole_word c i) (word_small c small (i / 128) (i % 128) (omega arith)) (λ r m. byte r m)
  where
    byte : (r : ℕ) → r < 4 → get_or s (4 * i + r) 0 ≡ byte_of (whole_word c i) r
    byte r m =
        let p : (4 * i + r) / 4 ≡ i = omega arith in
        let q : (4 * i + r) % 4 ≡ r = omega arith in
        let t : ltb ((4 * i + r) / 4) n ≡ true = rw p (lt-ltb i n l) in
        h (4 * i + r) ∙ rw t (rw (p, q))

pub given_small : (program words : List ℕ) (depth : ℕ) → ((k : ℕ) → get_or program k 0 < 2 ^ 32) → ((k : ℕ) → get_or words k 0 < 2 ^ 32)
    → length program < 2 ^ 32 → length words < 2 ^ 32 → depth < 2 ^ 32 → Small (given program words depth)
given_small program words depth p w lp lw d =
    record {
      program = λ k. rw (get_or-map cleared program k 0) (cleared_small (get_or program k 0) (p k));
      words = w;
      program_length = rw (length-map program cleared) lp;
      words_length = lw;
      depth = d;
    }
