-- The blocks and keys of published vectors, under the definitions. Assumes nothing.
use Rattle.std.specs.Prelude.{List, [], ◌∷◌, ℕ}
use Rattle.boxes.specs.Boxes.{box_a, box_s}
use Rattle.ciphers.specs.Aes.{key_expansion, cipher_a}
use Rattle.ciphers.specs.Sm4.{schedule_s, cipher_s}
use Rattle.ciphers.specs.Counter.{big_endian, counted_pads, padded}

-- box A of 00 and 53, and box S of 00 and 01
abbrev pub box_bytes : List ℕ
box_bytes = box_a 0x00 ∷ box_a 0x53 ∷ box_s 0x00 ∷ box_s 0x01 ∷ []

-- a block of AES-128, key and block given as numbers
abbrev pub aes : ℕ → ℕ → List ℕ
aes key block = cipher_a box_a (key_expansion box_a (big_endian 16 key)) (big_endian 16 block)

-- a block of SM4, key and block given as numbers
abbrev pub sm4 : ℕ → ℕ → List ℕ
sm4 key block = cipher_s box_s (schedule_s box_s (big_endian 16 key)) (big_endian 16 block)

-- the example of FIPS 197, appendix B
abbrev pub fips_b : List ℕ
fips_b = aes 0x2b7e151628aed2a6abf7158809cf4f3c 0x3243f6a8885a308d313198a2e0370734

-- the example of FIPS 197, appendix C.1
abbrev pub fips_c1 : List ℕ
fips_c1 = aes 0x000102030405060708090a0b0c0d0e0f 0x00112233445566778899aabbccddeeff

-- the first example of GB/T 32907-2016
abbrev pub gbt_example : List ℕ
gbt_example = sm4 0x0123456789abcdeffedcba9876543210 0x0123456789abcdeffedcba9876543210

-- the first two blocks of SP 800-38A, F.5.1
abbrev pub counter_blocks : List ℕ
counter_blocks =
    padded (counted_pads (cipher_a box_a (key_expansion box_a (big_endian 16 0x2b7e151628aed2a6abf7158809cf4f3c))) 0xf0f1f2f3f4f5f6f7f8f9fafbfcfdfeff)
    (big_endian 32 0x6bc1bee22e409f96e93d7e117393172aae2d8a571e03ac9c9eb76fac45af8e51)
