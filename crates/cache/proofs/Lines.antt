-- What the lines make of the words below, after each change of either.
use Rattle.std.proofs.Common.{◌≡◌, ℕ, ◌%◌, ◌<◌, true, false, ◌⊎◌, List, length, get_or, set, Some, None, Option, sym, refl, ap, ◌∙◌, ap₂, inl, inr, zero-add, arith, length-set, get_or-set_other}
use Rattle.std.proofs.lemmas.Bool.{cases_eq}
use Rattle.std.proofs.lemmas.Bool.Decides.{nat_tests}
use Rattle.std.proofs.lemmas.Grind.{get_or-set_at, same_number_lists}
use Rattle.std.proofs.lemmas.List.{set-get_or, get_or-replicate}
use Rattle.std.proofs.lemmas.List.FromFn.{get_or-map-range_with_len}
use Rattle.cache.specs.declared.line.Line.{Line}
use Rattle.cache.specs.Lines.{line, empty_lines, line_of, holds, word_held, covered, over, laid, yielded, belongs, Placed, length_over}

-- one line, and a word at address k

-- a line that holds a word for an address
pub held_line : (l : Option Line) (a w : ℕ) → Some w ≡ word_held l a → l ≡ line a w
held_line None a w e = cc
held_line (Some l) a w e = grind (arith, nat_tests)

held_yielded : (l : Option Line) (a w : ℕ) (ws : List ℕ) → Some w ≡ word_held l a → yielded l a ws ≡ ws
held_yielded None a w ws e = refl
held_yielded (Some l) a w ws e = grind (arith, nat_tests)

held_covered : (l : Option Line) (a w x : ℕ) → Some w ≡ word_held l a → covered l a x ≡ w
held_covered None a w x e = cc
held_covered (Some l) a w x e = grind (arith, nat_tests)

-- a line that holds none
pub not_held : (l : Option Line) (a : ℕ) → None ≡ word_held l a → holds l a ≡ false
not_held None a e = refl
not_held (Some l) a e = grind (arith, nat_tests)

not_covered : (l : Option Line) (a x : ℕ) → None ≡ word_held l a → covered l a x ≡ x
not_covered None a x e = refl
not_covered (Some l) a x e = grind (arith, nat_tests)

-- a line that yields: its own word, and those of other lines
pub length_yielded : (l : Option Line) (a : ℕ) (ws : List ℕ) → length (yielded l a ws) ≡ length ws
length_yielded None a ws = refl
length_yielded (Some l) a ws = grind (arith, nat_tests, length-set)

yielded_here : (l : Option Line) (a k : ℕ) (ws : List ℕ) → k < length ws → (k ≡ a → ⊥) → get_or (yielded l a ws) k 0 ≡ covered l k (get_or ws k 0)
yielded_here None a k ws h ne = refl
yielded_here (Some l) a k ws h ne = grind (arith, nat_tests, get_or-set_at, get_or-set_other)

yielded_elsewhere : (l : Option Line) (a k : ℕ) (ws : List ℕ) → belongs l (a % 16) ≡ true → (k % 16 ≡ a % 16 → ⊥) → get_or (yielded l a ws) k 0 ≡ get_or ws k 0
yielded_elsewhere None a k ws b ne = refl
yielded_elsewhere (Some l) a k ws b ne = grind (arith, nat_tests, get_or-set_other)

-- a word taken into a line covers its own address alone
covered_line : (a w k x : ℕ) → (k ≡ a → ⊥) → covered (line a w) k x ≡ x
covered_line a w k x ne = grind (arith, nat_tests)

covered_here : (a w x : ℕ) → covered (line a w) a x ≡ w
covered_here a w x = grind (arith, nat_tests)

-- the words of a cache

pub at_over : (ls : List (Option Line)) (ws : List ℕ) (k : ℕ) → k < length ws → get_or (over ls ws) k 0 ≡ covered (line_of ls k) k (get_or ws k 0)
at_over ls ws k h = get_or-map-range_with_len (λ (a : ℕ). covered (line_of ls a) a (get_or ws a 0)) 0 (length ws) k k 0 h (zero-add k)

-- they are known by each of them
same_over : (ls : List (Option Line)) (ws vs : List ℕ) → length ws ≡ length vs → ((k : ℕ) → k < length ws → covered (line_of ls k) k (get_or ws k 0) ≡ get_or vs k 0) → over ls ws ≡ vs
same_over ls ws vs n h =
    let m = length_over ls ws in
    same_number_lists (over ls ws) vs (m ∙ n) (λ k l. let o : k < length ws = omega arith in at_over ls ws k o ∙ h k o)

pub over_empty : (ws : List ℕ) → over empty_lines ws ≡ ws
over_empty ws = same_over empty_lines ws ws refl (λ k h. let e : line_of empty_lines k ≡ None = get_or-replicate 16 (k % 16) None None (omega arith) in rw e refl)

-- an access to a held address: the word is the held one, and nothing changes
module _ (ls : List (Option Line)) (a w : ℕ) (ws : List ℕ) (e : Some w ≡ word_held (line_of ls a) a) where
  pub hit_word : a < length (over ls ws) → w ≡ get_or (over ls ws) a 0
  hit_word h = let n = length_over ls ws in sym (at_over ls ws a (omega arith) ∙ held_covered (line_of ls a) a w (get_or ws a 0) e)

  pub hit_lines : laid ls a w ≡ ls
  hit_lines = ap (set ls (a % 16)) (sym (held_line (line_of ls a) a w e)) ∙ set-get_or ls (a % 16) None

  pub hit_below : yielded (line_of ls a) a ws ≡ ws
  hit_below = held_yielded (line_of ls a) a w ws e

-- an access to an address that is not held: the word is the one below
pub miss_word : (ls : List (Option Line)) (a : ℕ) (ws : List ℕ) → None ≡ word_held (line_of ls a) a → a < length (over ls ws) → get_or ws a 0 ≡ get_or (over ls ws) a 0
miss_word ls a ws e h = let n = length_over ls ws in sym (at_over ls ws a (omega arith) ∙ not_covered (line_of ls a) a (get_or ws a 0) e)

-- what the lines before line i hold stands below as well
abbrev pub WrittenBelow : List (Option Line) → List ℕ → ℕ → Type 0
WrittenBelow ls ws i = (k : ℕ) → k < length ws → k % 16 < i → covered (line_of ls k) k (get_or ws k 0) ≡ get_or ws k 0

-- all lines written down
pub over_written : (ls : List (Option Line)) (ws : List ℕ) → WrittenBelow ls ws 16 → over ls ws ≡ ws
over_written ls ws d = same_over ls ws ws refl (λ k h. d k h (omega arith))

-- lines that hold each address in its own line
module _ (ls : List (Option Line)) (placed : Placed ls) where
  -- a word taken into its line, once that has yielded
  pub over_laid : (ws : List ℕ) (a w : ℕ) → line_of (laid ls a w) a ≡ line a w → a < length ws → over (laid ls a w) (yielded (line_of ls a) a ws) ≡ set (over ls ws) a w
  over_laid ws a w here h =
      let n = length_yielded (line_of ls a) a ws in
      let m = length-set (over ls ws) a w ∙ length_over ls ws in
      same_over (laid ls a w) (yielded (line_of ls a) a ws) (set (over ls ws) a w) (n ∙ sym m)
      (λ k l. at k (omega arith) (cases_eq k a) (cases_eq (k % 16) (a % 16)))
    where
      at : (k : ℕ) → k < length ws → (k ≡ a) ⊎ (k ≡ a → ⊥) → (k % 16 ≡ a % 16) ⊎ (k % 16 ≡ a % 16 → ⊥)
          → covered (line_of (laid ls a w) k) k (get_or (yielded (line_of ls a) a ws) k 0) ≡ get_or (set (over ls ws) a w) k 0
      at k l (inl e) f = grind (arith, e, here, covered_here, length_over ls ws, get_or-set_at)
      at k l (inr ne) (inl e) = grind (arith, e, here, ne, covered_line, yielded_here, at_over, get_or-set_other)
      at k l (inr ne) (inr f) = grind (arith, ne, f, yielded_elsewhere, at_over, get_or-set_other, placed (a % 16))

-- what an access leaves: its word, and where that stood there before, all words
module _ (ls ms : List (Option Line)) (ws vs : List ℕ) (a w : ℕ) (placed : Placed ls) (here : line_of ms a ≡ line a w) (h : a < length (over ls ws))
    (lines : ms ≡ laid ls a w) (below : vs ≡ yielded (line_of ls a) a ws) where
  pub access_left : over ms vs ≡ set (over ls ws) a w
  access_left = let n = length_over ls ws in ap₂ over lines below ∙ over_laid ls placed ws a w (ap (λ (ns : List (Option Line)). line_of ns a) (sym lines) ∙ here) (omega arith)

  pub access_kept : w ≡ get_or (over ls ws) a 0 → over ms vs ≡ over ls ws
  access_kept e = access_left ∙ ap (set (over ls ws) a) e ∙ set-get_or (over ls ws) a 0
