-- The bytes under the pads, block by block, and once more under the same pads. Assumes nothing.
use Rattle.std.proofs.Common.{◌≡◌, ℕ, ◌+◌, ◌-◌, ◌*◌, ◌/◌, ◌%◌, ◌<◌, ◌≤◌, min, List, length, get_or, drop, set, sym, refl, ap, ◌∙◌, subst, inl, inr, arith, below_more}
use Rattle.std.proofs.lemmas.Bool.{cases_lt}
use lib.Bits.{bit_xor, xor_assoc, xor_self, xor_zero_r}
use Rattle.std.proofs.lemmas.List.FromFn.{fill_by_all, length-map-range_with_len, get_or-map-range_with_len}
use Rattle.std.proofs.lemmas.List.{get_or-take, get_or-drop, get_or-set_same, get_or-set_other, length-set}
use Rattle.std.proofs.lemmas.Slice.{between-put_mid, drop-put_mid}
use borrow.Rule.Slice.PartMut.{mid_of, put_mid, mid_len, same_len_mid, take_put}
use Rattle.ciphers.specs.Counter.{pad_byte, padded, Covers, InRange, Pads, sealed, sector_pads}

-- ---- the bytes one after the other

-- byte k of s is padded below j, and as it was from j on
pub record Sofar (f : ℕ → ℕ) (s : List ℕ) (j : ℕ) (old : List ℕ) : Type 0 where
  pub long : length s ≡ length old
  pub below : (k : ℕ) → k < j → k < length old → get_or s k 0 ≡ bit_xor (get_or old k 0) (f k)
  pub above : (k : ℕ) → j ≤ k → get_or s k 0 ≡ get_or old k 0

pub start : (f : ℕ → ℕ) (s : List ℕ) → Sofar f s 0 s
start f s = record { long = refl; below = λ k h. absurd (omega arith); above = λ k h. refl }

pub one_more : (f : ℕ → ℕ) (s : List ℕ) (j : ℕ) (old : List ℕ) → j < length s → Sofar f s j old → Sofar f (set s j (bit_xor (get_or s j 0) (f j))) (j + 1) old
one_more f s j old h so =
    let v = bit_xor (get_or s j 0) (f j) in
    let other : (k : ℕ) → (k ≡ j → ⊥) → get_or (set s j v) k 0 ≡ get_or s k 0 = λ k ne. get_or-set_other s j k v 0 ne in
    record {
      long = length-set s j v ∙ so.long;
      below =
          below_more _ _ (λ k l m. other k (omega arith) ∙ so.below k l m)
          (λ m. get_or-set_same s j v 0 h ∙ ap (λ (x : ℕ). bit_xor x (f j)) (so.above j (omega arith)));
      above = λ k l. other k (omega arith) ∙ so.above k (omega arith);
    }

-- all the bytes of a block are padded
pub covers_all : (pad s : List ℕ) (n : ℕ) (old : List ℕ) → length old ≤ n → n ≤ 16 → Sofar (λ k. get_or pad k 0) s n old → Covers pad 0 16 old s
covers_all pad s n old h l so = record {
  long = so.long;
  before = λ k b. absurd (omega arith);
  inside =
      λ k a b.
      let z : 0 + k ≡ k = omega arith in
      subst (λ (j : ℕ). get_or s j 0 ≡ bit_xor (get_or old j 0) (get_or pad k 0)) (sym z) (so.below k (omega arith) (omega arith));
  after = λ k a. so.above k (omega arith);
}

-- ---- the pads one after the other

-- a pad over the part from a to e, which are the 16 bytes there or those left
pub covers_part : (pad : List ℕ) (a e : ℕ) (s ys : List ℕ) → a ≤ length s → e ≡ min (length s) (a + 16) → Covers pad 0 16 (mid_of a (e - a) s) ys
    → Covers pad a 16 s (put_mid a (e - a) s ys)
covers_part pad a e s ys l m c =
    let n = e - a in
    let t = put_mid a n s ys in
    let part : length (mid_of a n s) ≡ n = mid_len a e s (omega arith) in
    let long : length ys ≡ n = c.long ∙ part in
    record {
      long = same_len_mid a n s ys c.long;
      before = λ k h. sym (get_or-take a t k 0 h) ∙ ap (λ (x : List ℕ). get_or x k 0) (take_put a n s ys l) ∙ get_or-take a s k 0 h;
      inside = λ k h b.
          let z : 0 + k ≡ k = omega arith in
          let at : (x : List ℕ) → get_or (mid_of a n x) k 0 ≡ get_or x (a + k) 0 = λ x. get_or-take n (drop a x) k 0 (omega arith) ∙ get_or-drop a x k 0 in
          let here : get_or ys k 0 ≡ bit_xor (get_or (mid_of a n s) k 0) (get_or pad k 0) =
          subst (λ (j : ℕ). get_or ys j 0 ≡ bit_xor (get_or (mid_of a n s) j 0) (get_or pad k 0)) z (c.inside k h (omega arith)) in
          sym (at t) ∙ ap (λ (x : List ℕ). get_or x k 0) (between-put_mid a n s ys e l long) ∙ here ∙ ap (λ (x : ℕ). bit_xor x (get_or pad k 0)) (at s);
      after = λ k h.
          let j = k - e in
          let p : e + j ≡ k = omega arith in
          ap (λ (x : ℕ). get_or t x 0) (sym p) ∙ sym (get_or-drop e t j 0)
          ∙ ap (λ (x : List ℕ). get_or x j 0) (drop-put_mid a n s ys e (omega arith) l long)
          ∙ get_or-drop e s j 0 ∙ ap (λ (x : ℕ). get_or s x 0) p;
    }

pub more : (pads : ℕ → List ℕ) (pad s t : List ℕ) (i : ℕ) (old : List ℕ) → pad ≡ pads i → Covers pad (16 * i) 16 s t
    → Sofar (pad_byte pads) s (16 * i) old → Sofar (pad_byte pads) t (16 * (i + 1)) old
more pads pad s t i old e c so = record {
  long = c.long ∙ so.long;
  below =
      λ k h l. elim (cases_lt k (16 * i)) [
        | inl b ↦ c.before k b ∙ so.below k b l
        | inr b ↦
            let d = k - 16 * i in
            let q : i ≡ k / 16 = omega arith in
            let r : d ≡ k % 16 = omega arith in
            let p : 16 * i + d ≡ k = omega arith in
            let long = so.long in
            ap (λ (x : ℕ). get_or t x 0) (sym p) ∙ c.inside d (omega arith) (omega arith)
            ∙ ap (λ (x : ℕ). bit_xor (get_or s x 0) (get_or pad d 0)) p
            ∙ (λ x. bit_xor (so.above k b x) (get_or (e x) d 0))
            ∙ (λ x. bit_xor (get_or old k 0) (get_or (pads (q x)) (r x) 0))
      ];
  above = λ k h. c.after k (omega arith) ∙ so.above k (omega arith);
}

pub done : (pads : ℕ → List ℕ) (s : List ℕ) (j : ℕ) (old : List ℕ) → length old ≤ j → Sofar (pad_byte pads) s j old → s ≡ padded pads old
unfolding padded
done pads s j old h so = fill_by_all _ s (length old) 0 so.long (λ k l. so.below k (omega arith) l)

-- ---- the same pads once more

pub padded_length : (pads : ℕ → List ℕ) (bytes : List ℕ) → length (padded pads bytes) ≡ length bytes
unfolding padded
padded_length pads bytes = length-map-range_with_len (λ j. bit_xor (get_or bytes j 0) (pad_byte pads j)) 0 (length bytes)

pub padded_twice : (pads : ℕ → List ℕ) (bytes : List ℕ) → padded pads (padded pads bytes) ≡ bytes
unfolding padded
padded_twice pads bytes =
    let p = pad_byte pads in
    let f : ℕ → ℕ = λ j. bit_xor (get_or bytes j 0) (p j) in
    let n = length bytes in
    let long : length (padded pads bytes) ≡ n = padded_length pads bytes in
    sym (fill_by_all _ bytes (length (padded pads bytes)) 0 (sym long)
    (λ k l.
    let here : get_or (padded pads bytes) k 0 ≡ f k = get_or-map-range_with_len f 0 n k k 0 (omega arith) (omega arith) in
    sym (ap (λ (x : ℕ). bit_xor x (p k)) here ∙ xor_assoc (get_or bytes k 0) (p k) (p k)
    ∙ ap (bit_xor (get_or bytes k 0)) (xor_self (p k)) ∙ xor_zero_r (get_or bytes k 0))))

-- what an accepted call does
pub pads_of : (pads : ℕ → List ℕ) (old new : List ℕ) → InRange old → new ≡ padded pads old → Pads pads old new
pads_of pads old new range e =
    record { range = range; bytes = e; long = ap length e ∙ padded_length pads old; again = ap (padded pads) e ∙ padded_twice pads old }

-- a sealed sector has its length, and sealing it once more gives the first bytes
pub sealed_length : (cipher : List ℕ → List ℕ) (name number : ℕ) (bytes : List ℕ) → length (sealed cipher name number bytes) ≡ length bytes
sealed_length cipher name number bytes = padded_length (sector_pads cipher name number) bytes

pub sealed_twice : (cipher : List ℕ → List ℕ) (name number : ℕ) (bytes : List ℕ) → sealed cipher name number (sealed cipher name number bytes) ≡ bytes
sealed_twice cipher name number bytes = padded_twice (sector_pads cipher name number) bytes
