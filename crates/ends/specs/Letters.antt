-- The letters of the ciphers, and each cipher's octic and box. Assumes nothing.
use Rattle.std.specs.Prelude.{ℕ, Bool, false, List, Some, None, Option, ◌==◌}
use Rattle.boxes.specs.Boxes.{box_a, box_s}
use Rattle.ciphers.specs.declared.keys.Cipher.{Cipher}
use Rattle.ciphers.specs.declared.keys.Cipher.TheVariants.{Aes, Sm4}
use Rattle.ciphers.specs.Keys.{schedule_of, cipher_of}
-- the cipher of a letter
pub use Rattle.ciphers.specs.Letters.{cipher_for}

-- the octic in whose field a cipher's box takes inverses
abbrev pub octic_of : Cipher → ℕ
octic_of Aes = 0x11b
octic_of Sm4 = 0x1f5

-- the box of a cipher
abbrev pub box_of : Cipher → ℕ → ℕ
box_of Aes = box_a
box_of Sm4 = box_s

-- a cipher under a key: what it makes of a block
abbrev pub encipher : Cipher → List ℕ → List ℕ → List ℕ
encipher c key = cipher_of (box_of c) (schedule_of (box_of c) c key)

-- the fitted octic is the cipher's own
abbrev pub suits : ℕ → Option Cipher → Bool
suits octic None = false
suits octic (Some c) = octic == octic_of c
