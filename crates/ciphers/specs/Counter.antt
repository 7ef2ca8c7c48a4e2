-- The counter mode of SP 800-38A, over a cipher that is given as a function on blocks. Assumes nothing.
use Rattle.std.specs.Prelude.{◌≡◌, ℕ, ◌+◌, ◌-◌, ◌/◌, ◌%◌, ◌^◌, ◌<◌, ◌≤◌, List, ◌++◌, map, length, replicate, Result, MatchResult, bit_xor, slice_index}
use Rattle.std.specs.List.{range_with_len}
use Rattle.refusals.specs.declared.Refusal.{Refusal}
use Rattle.refusals.specs.declared.Refusal.TheVariants.{SectorLength}

-- a number in k bytes, the highest first
abbrev pub big_endian : ℕ → ℕ → List ℕ
big_endian k n = map (λ i. n / 256 ^ (k - 1 - i) % 256) (range_with_len 0 k)

-- a name in two bytes, a number in eight, zero in four and an index in two
abbrev pub laid_out : ℕ → ℕ → ℕ → List ℕ
laid_out name number index =
    big_endian 2 name ++ (big_endian 8 number ++ (replicate 4 0 ++ big_endian 2 index))

-- the counter block of a sector's block
unfoldable pub counter_block : ℕ → ℕ → ℕ → List ℕ
counter_block name number index = laid_out name number index

-- a counter block tells its name, number and index: no other ones within their ranges have it
abbrev pub Tells : ℕ → ℕ → ℕ → List ℕ → Type 0
Tells name number index block =
    (name' number' index' : ℕ) → name' < 2 ^ 16 → number' < 2 ^ 64 → index' < 2 ^ 16 → counter_block name' number' index' ≡ block
    → (name' ≡ name) × (number' ≡ number) × (index' ≡ index)

-- the standard's own counter blocks: the first one, as a number, rises by 1 from block to block
abbrev pub counted_block : ℕ → ℕ → List ℕ
counted_block first index = big_endian 16 ((first + index) % 2 ^ 128)

-- what a function may give at an index is the block with that index
abbrev pub Gives : (ℕ → List ℕ → Type 0) → (ℕ → List ℕ) → Type 0
Gives post blocks = (i : ℕ) (y : List ℕ) → i < 2 ^ 16 → post i y → y ≡ blocks i

-- byte j of the pads, which are given by their indices: of pad j / 16, byte j % 16
abbrev pub pad_byte : (ℕ → List ℕ) → ℕ → ℕ
pad_byte pads j = slice_index (pads (j / 16)) (j % 16)

-- the bytes, each with its byte of the pads; of the last pad only as many are used as there are bytes left
unfoldable pub padded : (ℕ → List ℕ) → List ℕ → List ℕ
padded pads bytes = map (λ j. bit_xor (slice_index bytes j) (pad_byte pads j)) (range_with_len 0 (length bytes))

-- the pads of a cipher under a name and a number
abbrev pub sector_pads : (List ℕ → List ℕ) → ℕ → ℕ → ℕ → List ℕ
sector_pads cipher name number index = cipher (counter_block name number index)

-- the pads of a cipher from a first counter block on
abbrev pub counted_pads : (List ℕ → List ℕ) → ℕ → ℕ → List ℕ
counted_pads cipher first index = cipher (counted_block first index)

-- a sector, sealed under a name and a number
abbrev pub sealed : (List ℕ → List ℕ) → ℕ → ℕ → List ℕ → List ℕ
sealed cipher name number bytes = padded (sector_pads cipher name number) bytes

-- the pad of the block that begins at `start` is put over n of the bytes there, or over those left
pub record Covers (pad : List ℕ) (start n : ℕ) (old new : List ℕ) : Type 0 where
  pub long : length new ≡ length old
  pub before : (k : ℕ) → k < start → slice_index new k ≡ slice_index old k
  pub inside : (k : ℕ) → k < n → start + k < length old → slice_index new (start + k) ≡ bit_xor (slice_index old (start + k)) (slice_index pad k)
  pub after : (k : ℕ) → start + n ≤ k → slice_index new k ≡ slice_index old k

-- the lengths that a sector may have
abbrev pub InRange : List ℕ → Type 0
InRange bytes = (1 ≤ length bytes) × (length bytes ≤ 4096)

-- an accepted call: the bytes are padded, as many as before, and padding them once more gives the first bytes
pub record Pads (pads : ℕ → List ℕ) (old new : List ℕ) : Type 0 where
  pub range : InRange old
  pub bytes : new ≡ padded pads old
  pub long : length new ≡ length old
  pub again : padded pads new ≡ old

-- a refused call: the length is out of range, and the bytes are as they were
pub record Refuses (e : Refusal) (old new : List ℕ) : Type 0 where
  pub number : e ≡ SectorLength
  pub range : InRange old → ⊥
  pub kept : new ≡ old

-- what a call of the counter mode answers, and what it makes of the bytes
abbrev pub Worked : (ℕ → List ℕ) → List ℕ → Result Unit Refusal → List ℕ → Type 0
Worked pads old r new = MatchResult r (λ _. Pads pads old new) (λ e. Refuses e old new)
