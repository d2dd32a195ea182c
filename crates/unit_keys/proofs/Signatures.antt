-- Two lists of methods, of which those of one name in each are compared as others see them, one after another.
use Rattle.std.proofs.Common.{◌≡◌, ℕ, zero, suc, ◌+◌, ◌<◌, ◌≤◌, Bool, nat_eq, true, false, cond, List, [], ◌∷◌, drop, length, map, filter, slice_get, Some, refl, sym, ◌∙◌, ap, eq-eqb, eqb-true, arith}
use Rattle.std.specs.Str.{bytes_eq}
use Rattle.std.proofs.Math.Seq.{drop-nil}
use Rattle.std.proofs.lemmas.Option.{slice_get_within}
use Rattle.cfj_model.specs.declared.class.Method.{Method}
use Rattle.class_table.proofs.Members.{drop_get, not_true}
use Rattle.unit_facts.specs.Facts.{Signature, signature_of}
use Rattle.unit_keys.specs.Parts.{IsNextNamed, signatures_among}
use Rattle.unit_keys.proofs.Places.{some_within}

drop_past : {A : Type 0} (xs : List A) (i : ℕ) → length xs ≤ i → drop i xs ≡ []
drop_past [] i le = drop-nil i
drop_past (x ∷ xs) zero le = absurd (omega (arith, le))
drop_past (x ∷ xs) (suc i) le = drop_past xs i (omega (arith, le))

-- a method of another name is passed over
pub passed : (m : List ℕ) (ds : List Method) (i : ℕ) (d : Method) → slice_get ds i ≡ Some d → bytes_eq d.name m ≡ false → signatures_among m (drop i ds) ≡ signatures_among m (drop (i + 1) ds)
passed m ds i d at other =
    let rest = filter (λ (w : Method). bytes_eq w.name m) (drop (i + 1) ds) in
    ap (signatures_among m) (drop_get ds i d at) ∙ ap (λ b. map signature_of (cond b (d ∷ rest) rest)) other

-- one of this name is the first
pub first_is : (m : List ℕ) (ds : List Method) (i : ℕ) (d : Method) → slice_get ds i ≡ Some d → bytes_eq d.name m ≡ true
    → signatures_among m (drop i ds) ≡ signature_of d ∷ signatures_among m (drop (i + 1) ds)
first_is m ds i d at named =
    let rest = filter (λ (w : Method). bytes_eq w.name m) (drop (i + 1) ds) in
    ap (signatures_among m) (drop_get ds i d at) ∙ ap (λ b. map signature_of (cond b (d ∷ rest) rest)) named

pub none_left : (m : List ℕ) (ds : List Method) (i : ℕ) → length ds ≤ i → signatures_among m (drop i ds) ≡ []
none_left m ds i past = ap (signatures_among m) (drop_past ds i past)

-- ---- the next of a name

pub next_here : (m : List ℕ) (ds : List Method) (from place : ℕ) (d : Method) → from ≤ place → signatures_among m (drop from ds) ≡ signatures_among m (drop place ds) → slice_get ds place ≡ Some d
    → bytes_eq d.name m ≡ true → IsNextNamed m ds from place
next_here m ds from place d on same at named = record {
  from_on = on;
  within = (let l : place < length ds = slice_get_within ds place d at in omega (arith, l));
  none_before = same;
  named = λ e there. (let s : d ≡ e = cc (sym at ∙ there) in ap (λ (w : Method). bytes_eq w.name m) (sym s) ∙ named);
}

pub next_none : (m : List ℕ) (ds : List Method) (from place : ℕ) → from ≤ place → length ds ≡ place → signatures_among m (drop from ds) ≡ signatures_among m (drop place ds)
    → IsNextNamed m ds from place
next_none m ds from place on all same = record {
  from_on = on;
  within = omega (arith, all);
  none_before = same;
  named = λ e there. (let l : place < length ds = slice_get_within ds place e there in absurd (omega (arith, l, all)));
}

-- ---- lists, item by item

pub same_at : {A B : Type 0} (f : A → B) (xs ys : List A) (i : ℕ) (x y : A) → slice_get xs i ≡ Some x → slice_get ys i ≡ Some y → map f xs ≡ map f ys → f x ≡ f y
same_at f [] ys i x y here there e = absurd (cc here)
same_at f (w ∷ xs) [] i x y here there e = absurd (cc there)
same_at f (w ∷ xs) (v ∷ ys) zero x y here there e =
    let s : w ≡ x = cc here in
    let t : v ≡ y = cc there in
    let both : f w ≡ f v = cc e in
    ap f (sym s) ∙ both ∙ ap f t
same_at f (w ∷ xs) (v ∷ ys) (suc i) x y here there e = same_at f xs ys i x y here there (let rest : map f xs ≡ map f ys = cc e in rest)

-- ---- two lists

unlike_none : (g : Signature) (gs : List Signature) → g ∷ gs ≡ [] → ⊥
unlike_none g gs e = cc e

heads_same : (g h : Signature) (gs hs : List Signature) → g ∷ gs ≡ h ∷ hs → g ≡ h
heads_same g h gs hs e = cc e

tails_same : (g h : Signature) (gs hs : List Signature) → g ∷ gs ≡ h ∷ hs → gs ≡ hs
tails_same g h gs hs e = cc e

module _ (n m : List ℕ) (ds es : List Method) where
  -- what is left of both is the same where both are
  pub record AreLeft (i j : ℕ) : Type 0 where
    pub within : j ≤ length es
    pub there : signatures_among n ds ≡ signatures_among m es → signatures_among n (drop i ds) ≡ signatures_among m (drop j es)
    pub back : signatures_among n (drop i ds) ≡ signatures_among m (drop j es) → signatures_among n ds ≡ signatures_among m es

  pub left_first : AreLeft 0 0
  left_first = record { within = omega arith; there = λ e. e; back = λ e. e }

  module _ (i j : ℕ) (left : AreLeft i j) where
    pub left_passed : (d : Method) → slice_get ds i ≡ Some d → bytes_eq d.name n ≡ false → AreLeft (i + 1) j
    left_passed d at other =
        let p = passed n ds i d at other in
        record { within = left.within; there = λ e. sym p ∙ left.there e; back = λ e. left.back (p ∙ e) }

    pub left_more : (k : ℕ) (d e : Method) → slice_get ds i ≡ Some d → bytes_eq d.name n ≡ true → IsNextNamed m es j k → slice_get es k ≡ Some e → signature_of d ≡ signature_of e → AreLeft (i + 1) (k + 1)
    left_more k d e at named next here same =
        let first = first_is n ds i d at named in
        let second = next.none_before ∙ first_is m es k e here (next.named e here) in
        let l : k < length es = slice_get_within es k e here in
        record {
          within = omega (arith, l);
          there = λ all. tails_same (signature_of d) (signature_of e) (signatures_among n (drop (i + 1) ds)) (signatures_among m (drop (k + 1) es)) (sym first ∙ left.there all ∙ second);
          back = λ rest. left.back (first ∙ ap (λ g. g ∷ signatures_among n (drop (i + 1) ds)) same ∙ ap (λ gs. signature_of e ∷ gs) rest ∙ sym second);
        }

    pub left_unlike : (k : ℕ) (d e : Method) → slice_get ds i ≡ Some d → bytes_eq d.name n ≡ true → IsNextNamed m es j k → slice_get es k ≡ Some e → (signature_of d ≡ signature_of e → ⊥)
        → signatures_among n ds ≡ signatures_among m es → ⊥
    left_unlike k d e at named next here unlike all =
        unlike (heads_same (signature_of d) (signature_of e) (signatures_among n (drop (i + 1) ds)) (signatures_among m (drop (k + 1) es))
        (sym (first_is n ds i d at named) ∙ left.there all ∙ next.none_before ∙ first_is m es k e here (next.named e here)))

    pub left_short : (k : ℕ) (d : Method) → slice_get ds i ≡ Some d → bytes_eq d.name n ≡ true → IsNextNamed m es j k → length es ≤ k → signatures_among n ds ≡ signatures_among m es → ⊥
    left_short k d at named next past all =
        unlike_none (signature_of d) (signatures_among n (drop (i + 1) ds)) (sym (first_is n ds i d at named) ∙ left.there all ∙ next.none_before ∙ none_left m es k past)

    pub left_all : (k : ℕ) → length ds ≤ i → IsNextNamed m es j k → length es ≤ k → signatures_among n ds ≡ signatures_among m es
    left_all k done next past = left.back (none_left n ds i done ∙ sym (none_left m es k past) ∙ sym next.none_before)

    pub left_over : (k : ℕ) (e : Method) → length ds ≤ i → IsNextNamed m es j k → slice_get es k ≡ Some e → signatures_among n ds ≡ signatures_among m es → ⊥
    left_over k e done next here all =
        unlike_none (signature_of e) (signatures_among m (drop (k + 1) es)) (sym (first_is m es k e here (next.named e here)) ∙ sym next.none_before ∙ sym (left.there all) ∙ none_left n ds i done)

    pub left_tells : (k : ℕ) → length ds ≤ i → IsNextNamed m es j k
        → (nat_eq k (length es) ≡ true → signatures_among n ds ≡ signatures_among m es) × (signatures_among n ds ≡ signatures_among m es → nat_eq k (length es) ≡ true)
    left_tells k done next = (λ t. left_all k done next (let s : k ≡ length es = eqb-true k (length es) t in omega (arith, s)), λ e. go e (nat_eq k (length es)) refl)
      where
        more : nat_eq k (length es) ≡ false → k < length es
        more q = omega (arith, next.within, apart)
          where
            apart : k ≡ length es → ⊥
            apart s = not_true (sym (eq-eqb k (length es) s) ∙ q)

        go : signatures_among n ds ≡ signatures_among m es → (b : Bool) → nat_eq k (length es) ≡ b → b ≡ true
        go e true q = refl
        go e false q = let f = some_within es k (more q) in absurd (left_over k f.0 done next f.1 e)
