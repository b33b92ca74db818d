-- Calls at an address that has a word, and at one that has none.
use Rattle.std.proofs.Common.{◌≡◌, ℕ, ◌<◌, ◌≤◌, List, length, get_or, set, Ok, Err, Result, IsErr, sym, refl, arith}
use Rattle.std.proofs.Math.Seq.{set_out}
use Rattle.std.proofs.lemmas.Bool.Decides.{nat_tests}
use Rattle.memory.specs.declared.fault.NoWord.{NoWord}
use Rattle.memory.specs.Words.{ReadsWord, WritesWord}

module _ {M F : Type 0} (words : M → List ℕ) (frame : M → F) where
  pub reads_inside : (m k : M) (a x : ℕ) → a < length (words m) → x ≡ get_or (words m) a 0 → words k ≡ words m → frame k ≡ frame m → ReadsWord words frame m k a (Ok x)
  reads_inside m k a x h e kept held = record { answer = grind (arith, nat_tests); kept = kept; held = held; refused = λ o. absurd (omega arith) }

  pub writes_inside : (m k : M) (a w : ℕ) → a < length (words m) → words k ≡ set (words m) a w → frame k ≡ frame m → WritesWord words frame m k a w (Ok tt)
  writes_inside m k a w h left held = record { answer = grind (arith, nat_tests); left = left; held = held; refused = λ o. absurd (omega arith) }

  pub reads_outside : (m : M) (a : ℕ) (r : Result ℕ NoWord) → IsErr r → length (words m) ≤ a → ReadsWord words frame m m a r
  reads_outside m a (Ok x) e o = cc
  reads_outside m a (Err x) e o = record { answer = grind (arith, nat_tests); kept = refl; held = refl; refused = λ _. refl }

  pub writes_outside : (m : M) (a w : ℕ) (r : Result (Unit {0}) NoWord) → IsErr r → length (words m) ≤ a → WritesWord words frame m m a w r
  writes_outside m a w (Ok x) e o = cc
  writes_outside m a w (Err x) e o = record { answer = grind (arith, nat_tests); left = sym (set_out (words m) a w o); held = refl; refused = λ _. refl }

  -- what the answer of a read says
  pub word_read : (m k : M) (a x : ℕ) → ReadsWord words frame m k a (Ok x) → x ≡ get_or (words m) a 0
  word_read m k a x r = grind (arith, nat_tests, r.answer)
