-- Caches and accesses to them.
use Rattle.std.proofs.Common.{◌≡◌, ℕ, ◌<◌, ◌≤◌, List, length, get_or, Some, sym, refl, ap, ◌∙◌, arith}
use Rattle.cache.specs.declared.cache.Cache.{Cache}
use Rattle.cache.specs.Lines.{line_of, word_held, laid, length_over}
use Rattle.cache.specs.Caches.{words_below, words_of, Accessed}
use Rattle.cache.proofs.Lines.{hit_word, hit_lines, hit_below}

module _ {M : Type 0} (words : M → List ℕ) (c : Cache M) (a : ℕ) where
  -- an access to an address that has no word
  pub accessed_outside : (w : ℕ) → length (words_of words c) ≤ a → Accessed words c c a w
  accessed_outside w o =
      let n = length_over c.lines (words_below words c) in
      record { lines = λ h. absurd (omega arith); below = λ h. absurd (omega arith); hit = λ _. refl }

  -- an access to an address that is held, which leaves the word there
  pub accessed_held : (w : ℕ) → Some w ≡ word_held (line_of c.lines a) a → a < length (words_of words c) → Accessed words c c a (get_or (words_of words c) a 0)
  accessed_held w e h =
      let ws = words_below words c in
      record {
        lines = λ _. sym (ap (laid c.lines a) (sym (hit_word c.lines a w ws e h)) ∙ hit_lines c.lines a w ws e);
        below = λ _. sym (hit_below c.lines a w ws e);
        hit = λ _. refl;
      }
