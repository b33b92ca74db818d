-- A written image opens, and holds what was given.
use Rattle.std.proofs.Common.{◌≡◌, ℕ, ◌+◌, ◌-◌, ◌*◌, ◌/◌, ◌%◌, ◌^◌, ◌<◌, ◌≤◌, Bool, true, false, cond, eqb, ltb, List, [], ◌++◌, map, length, get_or, take, drop, Ok, Err, sym, refl, ap, ◌∙◌, subst, arith, lit<, length-append, length-drop, rules, le-ltb, lt-ltb}
use Rattle.std.proofs.Math.ListN.{get_or-map}
use Rattle.std.proofs.lemmas.List.{length-map, ext_get_or, get_or_append_left, get_or-append_right, get_or-drop, take_at}
use Rattle.std.proofs.lemmas.List.FromFn.{length-map-range_with_len, get_or-map-range_with_len}
use Rattle.refusal.specs.Refusals.{refused}
use Rattle.isa.specs.Words.{cleared}
use Rattle.isa.specs.Programs.{LawfulProgram}
use Rattle.isa.proofs.Words.{cleared_lawful}
use Rattle.image.specs.Words.{word_at}
use Rattle.image.specs.Blocks.{AllSound, pages}
use Rattle.image.specs.Format.{Contents, blocks_for, blocks_of, content, image_word, image_byte, image_of, word_from, words_from, program_in, contents_in}
use Rattle.image.specs.Whole.{RightLength, RightCounts}
use Rattle.image.specs.Opening.{Opening, opened}
use Rattle.image.specs.declared.draft.Draft.{Draft}
use Rattle.image.specs.Writing.{Writable, Writing, no_space, written, given, Held, Laid}
use Rattle.image.specs.Drafts.{drafted, IsDraftOf}
use Rattle.image.proofs.Contents.{length_words, word_here}
use Rattle.image.proofs.Format.{Small, given_small, laid_held, whole_at, first_at, inner_at, check_held}

pub length_image : (c : Contents) → length (image_of c) ≡ 512 * blocks_of c
unfolding image_of
length_image c = length-map-range_with_len (image_byte c) 0 (512 * blocks_of c)

byte_image : (c : Contents) (k : ℕ) → k < 512 * blocks_of c → get_or (image_of c) k 0 ≡ image_byte c k
unfolding image_of
byte_image c k h = get_or-map-range_with_len (image_byte c) 0 (512 * blocks_of c) k k 0 h (omega arith)

-- the image laid over nothing
laid_image : (c : Contents) → Laid c (128 * blocks_of c) (image_of c) (image_of c)
laid_image c k = on (ltb (k / 4) (128 * blocks_of c)) refl
  where
    on : (t : Bool) → ltb (k / 4) (128 * blocks_of c) ≡ t → get_or (image_of c) k 0 ≡ cond t (image_byte c k) (get_or (image_of c) k 0)
    on true e = let h : k / 4 < 128 * blocks_of c = search rules in byte_image c k (omega arith)
    on false e = refl

-- an image, and the contents that fit one
pub record Fit (c : Contents) : Type 0 where
  pub small : Small c
  pub short : length c.program ≤ 1024
  pub few : length c.words ≤ 4096
  pub deep : 1 ≤ c.depth
  pub shallow : c.depth ≤ 8
  pub lawful : LawfulProgram c.program

module _ (c : Contents) (fit : Fit c) where
  most : blocks_of c ≤ 43
  most = let a = fit.short in let b = fit.few in omega arith

  held : Held c (128 * blocks_of c) (image_of c)
  held = laid_held c (128 * blocks_of c) (image_of c) (image_of c) fit.small (let m = most in omega arith) (laid_image c)

  word_of : (b i : ℕ) → b < blocks_of c → i < 128 → word_at (image_of c) (128 * b + i) ≡ image_word c b i
  word_of b i h l = held (128 * b + i) (omega arith) ∙ whole_at c b i l

  sound : AllSound (image_of c)
  sound b h =
      let n = length_image c in
      let l : b < blocks_of c = omega arith in
      record {
        number = word_of b 0 l (lit< tt) ∙ first_at c b;
        checked = word_of b 127 l (lit< tt) ∙ sym (check_held c b (128 * blocks_of c) (image_of c) held (omega arith));
      }

  header : (j : ℕ) → j < 3 → word_at (image_of c) (j + 1) ≡ content c 0 j
  header j h =
      let e : j + 1 ≡ 128 * 0 + (j + 1) = omega arith in
      let s : j + 1 - 1 ≡ j = omega arith in
      ap (word_at (image_of c)) e ∙ word_of 0 (j + 1) (omega arith) (omega arith) ∙ inner_at c 0 (j + 1) (omega arith) (omega arith) ∙ ap (content c 0) s

  length_held : word_at (image_of c) 1 ≡ length c.program
  length_held = header 0 (lit< tt)

  size_held : word_at (image_of c) 2 ≡ length c.words
  size_held = header 1 (lit< tt)

  depth_held : word_at (image_of c) 3 ≡ c.depth
  depth_held = header 2 (lit< tt)

  right_length : RightLength (image_of c)
  right_length =
      let n = length_image c in
      let m = most in
      record { some = omega arith; most = omega arith; whole = omega arith }

  right_counts : RightCounts (image_of c)
  right_counts =
      record {
        short = rw length_held fit.short;
        small = rw size_held fit.few;
        deep = rw depth_held fit.deep;
        shallow = rw depth_held fit.shallow;
        blocks = rw (length_held, size_held) (length_image c);
      }

  paged : (b p : ℕ) → b + p / 126 < blocks_of c → word_from (image_of c) b p ≡ content c (b + p / 126) (p % 126)
  paged b p h =
      let s : 1 + p % 126 - 1 ≡ p % 126 = omega arith in
      word_of (b + p / 126) (1 + p % 126) h (omega arith) ∙ inner_at c (b + p / 126) (1 + p % 126) (omega arith) (omega arith) ∙ ap (content c (b + p / 126)) s

  program_word : (p : ℕ) → p < length c.program → word_from (image_of c) 1 p ≡ get_or c.program p 0
  program_word p h =
      let z : eqb (1 + p / 126) 0 ≡ false = search rules in
      let o : 1 + p / 126 - 1 ≡ p / 126 = omega arith in
      let t : ltb (p / 126) (pages (length c.program)) ≡ true = lt-ltb (p / 126) (pages (length c.program)) (omega arith) in
      let q : 126 * (p / 126) + p % 126 ≡ p = omega arith in
      paged 1 p (omega arith) ∙ rw (z, o, t, q)

  data_word : (p : ℕ) → p < length c.words → word_from (image_of c) (1 + pages (length c.program)) p ≡ get_or c.words p 0
  data_word p h =
      let z : eqb (1 + pages (length c.program) + p / 126) 0 ≡ false = search rules in
      let t : ltb (1 + pages (length c.program) + p / 126 - 1) (pages (length c.program)) ≡ false =
      le-ltb (1 + pages (length c.program) + p / 126 - 1) (pages (length c.program)) (omega arith) in
      let o : 1 + pages (length c.program) + p / 126 - 1 - pages (length c.program) ≡ p / 126 = omega arith in
      let q : 126 * (p / 126) + p % 126 ≡ p = omega arith in
      paged (1 + pages (length c.program)) p (omega arith) ∙ rw (z, t, o, q)

  same_words : (b : ℕ) (ws : List ℕ) → ((p : ℕ) → p < length ws → word_from (image_of c) b p ≡ get_or ws p 0) → words_from (image_of c) b (length ws) ≡ ws
  same_words b ws h =
      let n = length_words (image_of c) b (length ws) in
      ext_get_or 0 (words_from (image_of c) b (length ws)) ws n (λ p l. word_here (image_of c) b (length ws) p (omega arith) ∙ h p (omega arith))

  contents_held : contents_in (image_of c) ≡ c
  contents_held =
      rw (length_held, size_held, depth_held, same_words 1 c.program program_word, same_words (1 + pages (length c.program)) c.words data_word)

  program_held : program_in (image_of c) ≡ c.program
  program_held = ap (λ (d : Contents). d.program) contents_held

  pub image_opens : Opening (image_of c) (Ok c)
  image_opens =
      subst (λ (d : Contents). Opening (image_of c) (Ok d)) contents_held
      (opened right_length sound right_counts (subst LawfulProgram (sym program_held) fit.lawful))

-- the bytes after the whole image was laid over them
pub laid_bytes : (c : Contents) (before s : List ℕ) → length s ≡ length before → 512 * blocks_of c ≤ length before → Laid c (128 * blocks_of c) before s
    → s ≡ image_of c ++ drop (512 * blocks_of c) before
laid_bytes c before s e l h =
    let n = length_image c in
    let m : length s ≡ length (image_of c ++ drop (512 * blocks_of c) before) = simp (length-append, length-drop) (omega arith) in
    ext_get_or 0 s (image_of c ++ drop (512 * blocks_of c) before) m (λ k h'. here k)
  where
    after_image : (k : ℕ) → 512 * blocks_of c ≤ k → get_or (image_of c ++ drop (512 * blocks_of c) before) k 0 ≡ get_or before k 0
    after_image k g =
        let q : 512 * blocks_of c + (k - 512 * blocks_of c) ≡ k = omega arith in
        get_or-append_right (image_of c) (drop (512 * blocks_of c) before) (512 * blocks_of c) k 0 (length_image c) g
        ∙ get_or-drop (512 * blocks_of c) before (k - 512 * blocks_of c) 0
        ∙ ap (λ (j : ℕ). get_or before j 0) q

    on : (k : ℕ) (t : Bool) → ltb (k / 4) (128 * blocks_of c) ≡ t
        → cond t (image_byte c k) (get_or before k 0) ≡ get_or (image_of c ++ drop (512 * blocks_of c) before) k 0
    on k true q =
        let n = length_image c in
        let f : k / 4 < 128 * blocks_of c = search rules in
        sym (get_or_append_left (image_of c) (drop (512 * blocks_of c) before) 0 k (omega arith) ∙ byte_image c k (omega arith))
    on k false q =
        let f : 128 * blocks_of c ≤ k / 4 = search rules in
        sym (after_image k (omega arith))

    here : (k : ℕ) → get_or s k 0 ≡ get_or (image_of c ++ drop (512 * blocks_of c) before) k 0
    here k = h k ∙ on k (ltb (k / 4) (128 * blocks_of c)) refl

given_lawful : (program : List ℕ) → ((k : ℕ) → get_or program k 0 < 2 ^ 32) → LawfulProgram program → LawfulProgram (map cleared program)
given_lawful program t h k l =
    let n = length-map program cleared in
    rw (get_or-map cleared program k 0) (cleared_lawful (get_or program k 0) (t k) (h k (omega arith)))

-- every number of a draft has 32 bits
pub small_drafted : (d : Draft) → Small (drafted d)
small_drafted d =
    let w = d.writable in
    let a = w.short in
    let b = w.small in
    let e = w.deep.1 in
    given_small d.program.now d.words.now d.depth d.instructions_fit d.words_fit (omega arith) (omega arith) (omega arith)

-- what is written opens and holds what was given
draft_opens : (d : Draft) → Opening (image_of (drafted d)) (Ok (drafted d))
draft_opens d =
    let w = d.writable in
    image_opens (drafted d)
    (record {
      small = small_drafted d;
      short = rw (length-map d.program.now cleared) w.short;
      few = w.small;
      deep = w.deep.0;
      shallow = w.deep.1;
      lawful = given_lawful d.program.now d.instructions_fit w.lawful;
    })

-- how long an image of what was given is
pub given_blocks : (program words : List ℕ) (depth : ℕ) → blocks_of (given program words depth) ≡ blocks_for (length program) (length words)
given_blocks program words depth = ap (λ (n : ℕ). blocks_for n (length words)) (length-map program cleared)

-- a draft of what was given, and n blocks
module _ (program words : List ℕ) (depth n : ℕ) (d : Draft) (of : IsDraftOf program words depth d) (e : n ≡ blocks_of (drafted d)) where
  same : drafted d ≡ given program words depth
  same = rw (of.program, of.words, of.depth)

  blocks : n ≡ blocks_for (length program) (length words)
  blocks = e ∙ ap blocks_of same ∙ given_blocks program words depth

  writable : Writable program words depth
  writable = rw (of.program, of.words, of.depth) at d.writable

  pub refused_answer : (space : ℕ) → space < 512 * n → Writing program words depth space (Err (refused 17 []))
  refused_answer space l = let b = blocks in no_space writable (omega arith)

  pub written_answer : (space : ℕ) → 512 * n ≤ space → Writing program words depth space (Ok (512 * n))
  written_answer space l = let b = blocks in rw blocks (written writable (omega arith))

  -- what writing leaves, once all blocks are laid
  pub written_bytes : (before s : List ℕ) → 512 * n ≤ length before → length s ≡ length before → Laid (drafted d) (128 * blocks_of (drafted d)) before s
      → s ≡ image_of (given program words depth) ++ drop (512 * n) before
  written_bytes before s l m h =
      subst (λ (c : Contents). s ≡ image_of c ++ drop (512 * n) before) same
      (subst (λ (k : ℕ). s ≡ image_of (drafted d) ++ drop (512 * k) before) (sym e) (laid_bytes (drafted d) before s m (omega arith) h))

  pub written_image : (before s : List ℕ) → 512 * n ≤ length before → length s ≡ length before → Laid (drafted d) (128 * blocks_of (drafted d)) before s
      → Opening (take (512 * n) s) (Ok (given program words depth))
  written_image before s l m h =
      let i : length (image_of (given program words depth)) ≡ 512 * n = length_image (given program words depth) ∙ ap (λ (j : ℕ). 512 * j) (sym (e ∙ ap blocks_of same)) in
      let t : take (512 * n) s ≡ image_of (given program words depth) =
      ap (take (512 * n)) (written_bytes before s l m h) ∙ take_at (image_of (given program words depth)) (drop (512 * n) before) (512 * n) i in
      rw t (subst (λ (c : Contents). Opening (image_of c) (Ok c)) same (draft_opens d))
