-- What a report says of each refusal, byte for byte. Assumes nothing.
use Rattle.std.specs.Prelude.{ℕ, List, ◌++◌, codes, decimal}
use Rattle.refusals.specs.Numbers.{number_of}
use Rattle.refusals.specs.declared.Refusal.{Refusal}
use Rattle.refusals.specs.declared.Refusal.TheVariants.{NotField, NotOctic, Divisible, NoFit, UnknownLetter, OtherOctic, KeyLength, SmallWork, NoKey, OtherName, SectorLength, NumbersUsedUp}

abbrev pub sentence_of : Refusal → List ℕ
sentence_of NotField = codes "the ring is no field of width 4"
sentence_of NotOctic = codes "the octic lies outside 256 to 511"
sentence_of Divisible = codes "the octic has a divisor of degree 1 to 4"
sentence_of NoFit = codes "the end has no fit"
sentence_of UnknownLetter = codes "the letter is neither A nor S"
sentence_of OtherOctic = codes "the fitted octic is not the letter's"
sentence_of KeyLength = codes "the key has not 16 bytes"
sentence_of SmallWork = codes "the work area has under 176 bytes"
sentence_of NoKey = codes "the end has no key"
sentence_of OtherName = codes "the ticket bears another name"
sentence_of SectorLength = codes "the sector has 0 bytes or more than 4096"
sentence_of NumbersUsedUp = codes "the next number is the largest of 64 bits"

-- a refusal with its number
abbrev pub numbered_of : Refusal → List ℕ
numbered_of e = codes "refused with " ++ (decimal (number_of e) ++ (codes ", " ++ sentence_of e))
