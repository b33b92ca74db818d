-- A memory over the caller's words.
use Rattle.std.specs.Prelude.{ℕ, ◌≤◌, List, length, take, drop}
use Rattle.std.proofs.Common.{sym, subst}
use Rattle.std.proofs.Math.Nat.{min-le_left}
use Rattle.std.proofs.lemmas.List.{length-take}

-- the words that it means: at most the first 4,096
abbrev pub first_words : List ℕ → List ℕ
first_words ws = take 4096 ws

-- the words beyond, which it never touches
abbrev pub words_beyond : List ℕ → List ℕ
words_beyond ws = drop 4096 ws

-- these are few enough for a data memory
pub at_most_4096 : (ws : List ℕ) → length (first_words ws) ≤ 4096
at_most_4096 ws = subst (λ (n : ℕ). n ≤ 4096) (sym (length-take 4096 ws)) (min-le_left 4096 (length ws))
