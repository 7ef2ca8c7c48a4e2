-- The number of each refusal. Assumes nothing.
use Rattle.std.specs.Prelude.{ℕ, Ok, Err, Result}
use Rattle.refusals.specs.declared.Refusal.{Refusal}
use Rattle.refusals.specs.declared.Refusal.TheVariants.{NotField, NotOctic, Divisible, NoFit, UnknownLetter, OtherOctic, KeyLength, SmallWork, NoKey, OtherName, SectorLength, NumbersUsedUp}

abbrev pub number_of : Refusal → ℕ
-- fit: the ring below has a width other than 4 or is not a field
number_of NotField = 1
-- fit: the octic lies outside 256 to 511
number_of NotOctic = 2
-- fit: the octic has a divisor of degree 1 to 4
number_of Divisible = 3
-- key, box, trail, tell: no fit
number_of NoFit = 4
-- key, box: the letter is neither A nor S
number_of UnknownLetter = 5
-- key, box: the fitted octic is not 11B for A, or not 1F5 for S
number_of OtherOctic = 6
-- key: the key has not 16 bytes
number_of KeyLength = 7
-- key: the work area has under 176 bytes
number_of SmallWork = 8
-- seal, open: no key
number_of NoKey = 9
-- seal: the ticket bears another name
number_of OtherName = 10
-- seal, open: 0 bytes or more than 4096
number_of SectorLength = 11
-- draw: the next number is the largest of 64 bits
number_of NumbersUsedUp = 12

-- 0 where nothing was refused, and else the refusal's number
abbrev pub answer_of : Result (Unit {0}) Refusal → ℕ
answer_of (Ok u) = 0
answer_of (Err e) = number_of e
