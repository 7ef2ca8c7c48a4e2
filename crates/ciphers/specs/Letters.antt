-- The letters that name the ciphers. Assumes nothing.
use Rattle.std.specs.Prelude.{◌≡◌, ℕ, cond, Some, None, Ok, Err, Option, Result, ◌==◌}
use Rattle.refusals.specs.declared.Refusal.{Refusal}
use Rattle.refusals.specs.declared.Refusal.TheVariants.{UnknownLetter}
use Rattle.ciphers.specs.declared.keys.Cipher.{Cipher}
use Rattle.ciphers.specs.declared.keys.Cipher.TheVariants.{Aes, Sm4}

-- A is AES-128 and S is SM4; no other letter names a cipher
abbrev pub cipher_for : ℕ → Option Cipher
cipher_for letter = cond (letter == 65) (Some Aes) (cond (letter == 83) (Some Sm4) None)

-- the letter's cipher, or the refusal of an unknown letter
abbrev pub Named : ℕ → Result Cipher Refusal → Type 0
Named letter (Ok c) = cipher_for letter ≡ Some c
Named letter (Err e) = (cipher_for letter ≡ None) × (e ≡ UnknownLetter)

-- the letter of a cipher: A is AES-128 and S is SM4
abbrev pub letter_for : Cipher → ℕ
letter_for Aes = 65
letter_for Sm4 = 83
