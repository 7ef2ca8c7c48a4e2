-- No counter block is used twice. Assumes nothing.
use Rattle.std.proofs.Common.{◌≡◌, ℕ, zero, suc, ◌+◌, ◌/◌, ◌^◌, ◌<◌, ◌≤◌, ◌⊎◌, List, [], ◌∷◌, ◌++◌, map, length, Some, None, Option, sym, refl, ap, ◌∙◌, subst, inl, inr, ⊎_elim, arith}
use Rattle.std.specs.List.{range_with_len}
use Rattle.ends.specs.declared.ticket.Ticket.{Ticket}
use Rattle.ends.specs.Model.{Sector, does, Each, ticket}
use Rattle.ends.proofs.Laws.{seal_law}
use Rattle.watch.specs.Log.{Entry, Log, none, ◌▷◌, block, blocks, uses, used, Among, NoneTwice, alike, taken, drawn, Unspent, Handed}
use Rattle.watch.specs.Runs.{World, Run, Begins}
use Rattle.watch.proofs.Blocks.{Short, block_same}
use Rattle.watch.proofs.Kept.{Kept, kept, same_self}

-- ---- lists

among_either : (b : List ℕ) (xs ys : List (List ℕ)) → Among b (xs ++ ys) → Among b xs ⊎ Among b ys
among_either b [] ys m = inr m
among_either b (z ∷ zs) ys m = ⊎_elim (λ e. inl (inl e)) (λ k. ⊎_elim (λ i. inl (inr i)) inr (among_either b zs ys k)) m

once_join : (xs ys : List (List ℕ)) → NoneTwice xs → NoneTwice ys → ((b : List ℕ) → Among b xs → Among b ys → ⊥) → NoneTwice (xs ++ ys)
once_join [] ys p q apart = q
once_join (x ∷ xs) ys p q apart = (λ m. ⊎_elim p.0 (apart x (inl refl)) (among_either x xs ys m), once_join xs ys p.1 q (λ b m k. apart b (inr m) k))

-- ---- the blocks of one ticket

among_blocks : (t : Ticket) (b : List ℕ) (a n : ℕ) → Among b (map (block t) (range_with_len a n)) → (i : ℕ) × (b ≡ block t i) × (a ≤ i) × (i < a + n)
among_blocks t b a zero h = elim h [ ]
among_blocks t b a (suc n) h =
    ⊎_elim
    (λ e. (a, e, omega arith, omega arith))
    (λ m. let p = among_blocks t b (a + 1) n m in (p.0, p.1, omega (arith, p.2), omega (arith, p.3)))
    h

abbrev FitTicket : Ticket → Type 0
FitTicket t = (t.name < 2 ^ 16) × (t.number < 2 ^ 64)

short : (t : Ticket) (i : ℕ) → FitTicket t → i < 2 ^ 16 → Short t i
short t i f h = record { name = f.0; num = f.1; index = h }

blocks_once : (t : Ticket) → FitTicket t → (a n : ℕ) → a + n ≤ 2 ^ 16 → NoneTwice (map (block t) (range_with_len a n))
blocks_once t f a zero h = tt
blocks_once t f a (suc n) h = (
  λ m.
      let p = among_blocks t (block t a) (a + 1) n m in
      let same = block_same t t a p.0 (short t a f (omega arith)) (short t p.0 f (omega (arith, p.3))) p.1 in
      omega (arith, same.index, p.2),
  blocks_once t f (a + 1) n (omega arith),
)

-- ---- the blocks of a log

-- a used block is that of a ticket that was taken
pub record Of (L : Log) (b : List ℕ) : Type 0 where
  pub owner : Ticket
  pub at : ℕ
  pub is : b ≡ block owner at
  pub fits : Short owner at
  pub was : 1 ≤ taken owner L

-- what is known of an accepted seal
abbrev Sized : Option Ticket → Sector → Type 0
Sized spent x = (spent ≡ Some x.owner) × (length x.bytes ≤ 4096)

module _ {start : World} {L : Log} {w : World} (k : Kept start L w) where
  -- a ticket that is handed in was drawn, and was not taken before
  handed : (o : Option Ticket) (t : Ticket) → o ≡ Some t → Each o (λ t. Unspent t L) → FitTicket t × (taken t L ≡ 0)
  handed o t q h = let left : taken t L < drawn t L = subst (λ x. Each x (λ t. Unspent t L)) q h in (k.ranged t (omega arith), omega (arith, k.single t))

  uses_of : (e : Entry) (o : Option Sector) → Each o (Sized (does e.call).spends) → Handed L e.call → (b : List ℕ) → Among b (uses o) → Of (L ▷ e) b
  uses_of e None sized h b among = elim among [ ]
  uses_of e (Some x) sized h b among =
      let t : Ticket = x.owner in
      let p = among_blocks t b 0 _ among in
      let one : alike t (does e.call).spends ≡ 1 = ap (alike t) sized.0 ∙ same_self t in
      record { owner = t; at = p.0; is = p.1; fits = short t p.0 (handed _ t sized.0 h).0 (omega (arith, p.3, sized.1)); was = omega (arith, one) }

  once_on : (spent : Option Ticket) (o : Option Sector) → Each o (Sized spent) → Each spent (λ t. Unspent t L) → ((b : List ℕ) → Among b (used L) → Of L b) → NoneTwice (used L) → NoneTwice (uses o ++ used L)
  once_on spent None sized h known old = old
  once_on spent (Some x) sized h known old =
      let t : Ticket = x.owner in
      let bs : List ℕ = x.bytes in
      let f = handed spent t sized.0 h in
      let n = sized.1 in
      once_join (blocks t bs) (used L) (blocks_once t f.0 0 ((length bs + 15) / 16) (omega arith)) old
      (λ b mine theirs.
      let p = among_blocks t b 0 _ mine in
      let o = known b theirs in
      let same = block_same t o.owner p.0 o.at (short t p.0 f.0 (omega (arith, p.3))) o.fits (sym p.1 ∙ o.is) in
      let one : ticket t.name t.number ≡ o.owner = λ i. ticket (same.name i) (same.num i) in
      let none_yet : taken o.owner L ≡ 0 = subst (λ x. taken x L ≡ 0) one f.1 in
      omega (arith, o.was, none_yet))

pub known : {start : World} → Begins start → (L : Log) (w : World) → Run start L w → (b : List ℕ) → Among b (used L) → Of L b
known begins none w run b h = elim h [ ]
known begins (L ▷ e) v run b h =
    let w : World = run.0 in
    ⊎_elim
    (λ m. uses_of (kept begins L w run.1) e (does e.call).seals (seal_law (w e.side) e.call run.3.steps.answers) run.2 b m)
    (λ m. let o = known begins L w run.1 b m in record { owner = o.owner; at = o.at; is = o.is; fits = o.fits; was = omega (arith, o.was) })
    (among_either b (uses (does e.call).seals) (used L) h)

pub once : {start : World} → Begins start → (L : Log) (w : World) → Run start L w → NoneTwice (used L)
once begins none w run = tt
once begins (L ▷ e) v run =
    let w : World = run.0 in
    once_on (kept begins L w run.1) (does e.call).spends (does e.call).seals (seal_law (w e.side) e.call run.3.steps.answers) run.2 (known begins L w run.1) (once begins L w run.1)
