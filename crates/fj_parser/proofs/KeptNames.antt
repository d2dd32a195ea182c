-- What the role of one token says where it breaks nothing, of names.
use Rattle.std.proofs.Common.{◌≡◌, ℕ, ◌<◌, Bool, true, false, List, [], ◌∷◌, length, refl, sym, subst, None, nat_le}
use Rattle.std.proofs.lemmas.Bool.{and_from, ltb-false, leb-false, le-leb}
use Rattle.std.proofs.lemmas.Option.{none-some}
use Rattle.cfj_model.specs.declared.fault.FaultKind.{FaultKind}
use Rattle.cfj_model.specs.declared.fault.FaultKind.TheVariants.{Limit}
use Rattle.cfj_model.specs.declared.fault.LimitKind.TheVariants as limit
use Rattle.cfj_words.specs.Names.{is_among, is_identifier, is_short_identifier}
use Rattle.cfj_words.specs.Tokens.{Token, Comma}
use Rattle.cfj_model.specs.ProductLines.{most_size}
use Rattle.cfj_model.specs.Marks.{each_behind, separated}
use Rattle.cfj_model.specs.Roles.{Role, used_name, other_token, Tally, first_of, is_long, broken_by, AreWithin}
use Rattle.fj_symbols.specs.Views.{are_read}

-- no test holds
abbrev pub NoneHolds : List (Bool × FaultKind) → Type 0
NoneHolds [] = Unit {0}
NoneHolds (f ∷ fs) = (f.0 ≡ false) × NoneHolds fs

-- Where there is no first fault, no test holds.
pub none_holds : (fs : List (Bool × FaultKind)) → first_of fs ≡ None → NoneHolds fs
none_holds [] e = tt
none_holds ((true, k) ∷ fs) e = absurd (none-some k (sym e))
none_holds ((false, k) ∷ fs) e = (refl, none_holds fs e)

-- an identifier that isn't long
pub short : (w : List ℕ) → is_identifier w ≡ true → is_long w ≡ false → is_short_identifier w ≡ true
short w i l = and_from _ _ i (le-leb _ _ (ltb-false _ _ l))

-- a new name, with room for it
pub record NameFits (w : List ℕ) (names : List (List ℕ)) (most size : ℕ) : Type 0 where
  pub length_fits : is_long w ≡ false
  pub new : is_among names w ≡ false
  pub few : length names < most
  pub small : size < most_size

-- a name, with room for it
pub record CountFits (w : List ℕ) (n most size : ℕ) : Type 0 where
  pub length_fits : is_long w ≡ false
  pub few : n < most
  pub small : size < most_size

pub name_fits : (w : List ℕ) (names : List (List ℕ)) (most size : ℕ) (j k l m : FaultKind) → first_of ((is_long w, j) ∷ ((is_among names w, k) ∷ ((nat_le most (length names), l) ∷ ((nat_le most_size size, m) ∷ [])))) ≡ None → NameFits w names most size
name_fits w names most size j k l m e = go (none_holds ((is_long w, j) ∷ ((is_among names w, k) ∷ ((nat_le most (length names), l) ∷ ((nat_le most_size size, m) ∷ [])))) e)
  where
    go : NoneHolds ((is_long w, j) ∷ ((is_among names w, k) ∷ ((nat_le most (length names), l) ∷ ((nat_le most_size size, m) ∷ [])))) → NameFits w names most size
    go (a, (b, (c, (d, end)))) = record { length_fits = a; new = b; few = leb-false _ _ c; small = leb-false _ _ d }

pub count_fits : (w : List ℕ) (n most size : ℕ) (j l m : FaultKind) → first_of ((is_long w, j) ∷ ((nat_le most n, l) ∷ ((nat_le most_size size, m) ∷ []))) ≡ None → CountFits w n most size
count_fits w n most size j l m e = go (none_holds ((is_long w, j) ∷ ((nat_le most n, l) ∷ ((nat_le most_size size, m) ∷ []))) e)
  where
    go : NoneHolds ((is_long w, j) ∷ ((nat_le most n, l) ∷ ((nat_le most_size size, m) ∷ []))) → CountFits w n most size
    go (a, (b, (c, end))) = record { length_fits = a; few = leb-false _ _ b; small = leb-false _ _ c }

pub used_short : (w : List ℕ) (t : Tally) → is_identifier w ≡ true → broken_by t (used_name w) ≡ None → is_short_identifier w ≡ true
used_short w t i e = short w i (none_holds ((is_long w, Limit limit.Name) ∷ []) e).0

-- A comma before the first item changes nothing.
pub separated_within : {A : Type 0} (t : Tally) (f : A → List Role → List Role) (xs : List A) (rest : List Role) → AreWithin t (separated other_token f xs rest) → AreWithin t (each_behind other_token f xs rest)
separated_within t f [] rest w = w
separated_within t f (x ∷ xs) rest w = (refl, w)

pub separated_read : {A : Type 0} (f : A → List Token → List Token) (xs : List A) (more : List Token) → are_read (separated Comma f xs more) ≡ true → are_read (each_behind Comma f xs more) ≡ true
separated_read f [] more r = r
separated_read f (x ∷ xs) more r = r

-- The size may be written in another way.
pub sized : (t : Tally) (m n : ℕ) (rest : List Role) → m ≡ n → AreWithin (record t { size = m }) rest → AreWithin (record t { size = n }) rest
sized t m n rest e w = subst (λ x. AreWithin (record t { size = x }) rest) e w
