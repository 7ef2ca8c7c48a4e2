-- What the display's function for programs in C answers, and what it leaves in the bytes. Assumes nothing.
use Rattle.std.specs.Prelude.{◌≡◌, ℕ, List, Result}
use Rattle.refusals.specs.declared.Refusal.{Refusal}
use Rattle.refusals.specs.Numbers.{answer_of}
use Rattle.ends.specs.Display.{Opened, AsEnd}

-- 0 where the call is accepted, and else the refusal's number
abbrev pub code_of : Result (Unit {0}) Refusal → ℕ
code_of = answer_of

-- n is the code of the one answer, and the bytes are left as it says; an end over the display's ring answers and leaves the same
pub record Displayed (letter : ℕ) (key : List ℕ) (name number : ℕ) (old : List ℕ) (n : ℕ) (new : List ℕ) : Type 0 where
  pub answer : Result (Unit {0}) Refusal
  pub code : n ≡ code_of answer
  pub opens : Opened letter key name number old answer new
  pub agrees : AsEnd letter key name number old answer new
