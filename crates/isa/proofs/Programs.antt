-- The check of a program answers for its first unlawful word.
use Rattle.std.proofs.Common.{◌≡◌, ℕ, zero, suc, ◌+◌, ◌<◌, ◌≤◌, true, List, [], ◌∷◌, length, get_or, Ok, Err, refl, arith, rules}
use Rattle.isa.specs.declared.fault.WordFault.{WordFault}
use Rattle.isa.specs.declared.fault.ProgramFault.{ProgramFault}
use Rattle.isa.specs.declared.fault.ProgramFault.TheVariants.{TooLong}
use Rattle.isa.specs.Refusals.{of_word, of_program}
use Rattle.isa.specs.Words.{lawful}
use Rattle.isa.specs.Programs.{measured, checked, checked_from, word_checked, unlawful_at, LawfulBelow, LawfulProgram, FirstUnlawful}

checked_from-lawful : (i : ℕ) (ws : List ℕ) → LawfulProgram ws → checked_from i ws ≡ Ok tt
unfolding checked_from
checked_from-lawful i [] h = refl
checked_from-lawful i (w ∷ ws) h = grind (arith, h 0, checked_from-lawful (i + 1) ws (λ k l. h (suc k) (omega arith)))

checked_from-unlawful : (i p w n : ℕ) (ws : List ℕ) → FirstUnlawful ws p w → i + p ≡ n → checked_from i ws ≡ Err (unlawful_at n w)
unfolding checked_from
checked_from-unlawful i p w n [] f e = absurd (omega arith)
checked_from-unlawful i zero w n (v ∷ ws) f e = search rules
checked_from-unlawful i (suc p) w n (v ∷ ws) f e =
    let rest : FirstUnlawful ws p w = record { inside = omega arith; word = f.word; unlawful = f.unlawful; before = λ k l. f.before (suc k) (omega arith) } in
    grind (arith, f.before 0, checked_from-unlawful (i + 1) p w n ws rest)

pub checked_lawful : (ws : List ℕ) → LawfulProgram ws → checked ws ≡ Ok tt
checked_lawful ws h = checked_from-lawful 0 ws h

pub checked_unlawful : (ws : List ℕ) (p w : ℕ) → FirstUnlawful ws p w → checked ws ≡ Err (unlawful_at p w)
checked_unlawful ws p w f = checked_from-unlawful 0 p w p ws f (omega arith)

-- the first word that is refused is the first unlawful one
pub first_refused : (ws : List ℕ) (i : ℕ) (f : WordFault) → i < length ws → LawfulBelow ws i
    → Err (of_word f) ≡ word_checked i (get_or ws i 0) → FirstUnlawful ws f.place f.word
first_refused ws i f l h e = search rules

-- a word that is not refused is lawful
pub accepted : (i w : ℕ) (u : Unit {0}) → Ok u ≡ word_checked i w → lawful w ≡ true
accepted i w u e = search rules

-- a program whose length is refused is too long
pub measured_refused : (ws : List ℕ) (f : ProgramFault) → Err (of_program f) ≡ measured ws → (f ≡ TooLong) × (1024 < length ws)
measured_refused ws f e = search rules

pub measured_accepted : (ws : List ℕ) (u : Unit {0}) → Ok u ≡ measured ws → length ws ≤ 1024
measured_accepted ws u e = search rules
