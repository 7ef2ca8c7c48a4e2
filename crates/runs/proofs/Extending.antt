-- Entries one after another. Assumes nothing.
use Rattle.std.proofs.Common.{◌≡◌, ℕ, ◌+◌, ◌<◌, ◌≤◌, List, [], ◌∷◌, ◌++◌, map, length, get_or, take, sym, refl, ap, ◌∙◌, subst, append_assoc, append-nil}
use mathlib.Core.List.{map-append}
use Rattle.std.proofs.lemmas.List.{take_more, take_all}
use Rattle.watch.specs.Log.{Log}
use Rattle.watch.specs.Runs.{World}
use Rattle.sheets.specs.Contents.{Item}
use Rattle.runs.specs.declared.line.Line.{Line}
use Rattle.runs.specs.Printed.{Printed, Entered, Extended}

-- some entries, and then some more
printed_join : (P : Log) (xs : List Item) (ls : List Line) (M : Log) (ys : List Item) (ks : List Line) (Q : Log) → Printed P xs ls M → Printed M ys ks Q → Printed P (xs ++ ys) (ls ++ ks) Q
printed_join P [] [] M ys ks Q p q = subst (λ (x : Log). Printed x ys ks Q) p q
printed_join P [] (l ∷ ls) M ys ks Q p q = absurd p
printed_join P (x ∷ xs) [] M ys ks Q p q = absurd p
printed_join P (x ∷ xs) (l ∷ ls) M ys ks Q p q = (p.0, p.1, printed_join p.0 xs ls M ys ks Q p.2 q)

pub extended_none : (w : World) (old : List Line) → Extended w [] old old w
extended_none w old = record { lines = []; joined = sym (append-nil old); on = λ begin P fresh run. (P, run, refl) }

-- an entry alone
extended_one : {w v : World} {x : Item} {l : Line} (old : List Line) → Entered w x l v → Extended w (x ∷ []) old (old ++ l ∷ []) v
extended_one {l = l} old enters = record {
  lines = l ∷ [];
  joined = refl;
  on = λ begin P fresh run. let q = enters.on begin P fresh run in (q.0, q.1, (q.0, q.2, refl));
}

pub extended_join : {w v u : World} {xs ys : List Item} {old mid new : List Line} → Extended w xs old mid v → Extended v ys mid new u → Extended w (xs ++ ys) old new u
extended_join {xs = xs} {ys = ys} {old = old} a b = record {
  lines = a.lines ++ b.lines;
  joined = b.joined ∙ ap (λ (l : List Line). l ++ b.lines) a.joined ∙ append_assoc old a.lines b.lines;
  on = λ begin P fresh run.
      let p = a.on begin P fresh run in
      let q = b.on begin p.0 fresh p.1 in
      (q.0, q.1, printed_join P xs a.lines p.0 ys b.lines q.0 p.2 q.2);
}

-- one entry more of a list
pub extended_more : {E : Type 0} {w v u : World} {old mid new : List Line} {l : Line} (item : E → Item) (es : List E) (i : ℕ) (e : E) → i < length es → e ≡ get_or es i e
    → Extended w (map item (take i es)) old mid v → Entered v (item e) l u → new ≡ mid ++ l ∷ [] → Extended w (map item (take (i + 1) es)) old new u
extended_more {w = w} {u = u} {old = old} {mid = mid} {new = new} item es i e below is sofar enters pushed =
    let more : map item (take i es) ++ item e ∷ [] ≡ map item (take (i + 1) es) =
    ap (λ x. map item (take i es) ++ item x ∷ []) is ∙ sym (map-append item (take i es) (get_or es i e ∷ [])) ∙ ap (map item) (sym (take_more es i e below)) in
    let joined = extended_join sofar (extended_one mid enters) in
    subst (λ (xs : List Item). Extended w xs old new u) more (subst (λ (ls : List Line). Extended w (map item (take i es) ++ item e ∷ []) old ls u) (sym pushed) joined)

-- all entries of a list
pub extended_all : {E : Type 0} {w v : World} {old new : List Line} (item : E → Item) (es : List E) (i : ℕ) → length es ≤ i → Extended w (map item (take i es)) old new v → Extended w (map item es) old new v
extended_all {w = w} {v = v} {old = old} {new = new} item es i past = subst (λ xs. Extended w (map item xs) old new v) (take_all i es past)
