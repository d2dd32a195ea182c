-- Clauses that are watched.
use Rattle.std.proofs.Common.{◌≡◌, ℕ, ◌<◌, ◌≤◌, ◌⊎◌, inl, inr, false, not, List, [], ◌∷◌, ◌++◌, length, get_or, slice_get, Some, None, refl, sym, ◌∙◌, ap, subst, arith}
use Rattle.std.proofs.lemmas.List.{length-set}
use Rattle.std.proofs.lemmas.Option.{slice_get_within, slice_get_read}
use Rattle.cfj_logic.specs.declared.clauses.Literal.{Literal}
use Rattle.std.specs.Prelude.{All}
use Rattle.cfj_logic.specs.Logs.{AreBelow}
use Rattle.cfj_logic.specs.UnitClauses.{Values, value_of, IsFalse, with_true, IsFalsified, IsUnit}
use Rattle.cfj_words.specs.Lists.{Has}
use Rattle.unit_propagation.specs.declared.lists.Lists.{Lists}
use Rattle.unit_propagation.specs.declared.pair.Pair.{Pair}
use Rattle.unit_propagation.specs.declared.watches.Watches.{Watches}
use Rattle.unit_propagation.specs.Falsified.{IsFalsifiedAt}
use Rattle.unit_propagation.specs.Lists.{lists_of, IsListed, IsCovered, AreMore}
use Rattle.unit_propagation.specs.Standings.{IsOpen}
use Rattle.unit_propagation.specs.Visits.{HasTwoUnvalued, Settles, IsMoved}
use Rattle.unit_propagation.specs.Walks.{IsWithin}
use Rattle.unit_propagation.specs.Watched.{IsOf, AreTwoOf, IsShort, AreWatchedAt, IsTrueIn, Fits, IsListedBut, AreWatched, AreWatchedBut, Handled, HandledWith, HandledBut}
use Rattle.unit_propagation.proofs.Members.{all_has, read_has, has_none, has_one, has_split, same_or_other, one_item, get_set_same, get_set_other}
use Rattle.unit_propagation.proofs.UnitSteps.{no_value}
use Rattle.std.proofs.lemmas.List.{get_or-set_same}

pub falsified_at : (cs : List (List Literal)) (vs : Values) (i : ℕ) (x y : List Literal) → i < length cs → x ≡ get_or cs i x → y ≡ x → IsFalsified vs y → IsFalsifiedAt cs vs i
falsified_at cs vs i x y lt is same f = record { clause = x; there = slice_get_read cs (length cs) i x refl lt is; falsified = subst (IsFalsified vs) same f }

-- the clause at a place is the one that was read there
read_clause : (cs : List (List Literal)) (i : ℕ) (x y c : List Literal) → i < length cs → x ≡ get_or cs i x → y ≡ x → slice_get cs i ≡ Some c → y ≡ c
read_clause cs i x y c lt is same there = same ∙ one_item cs i x c (slice_get_read cs (length cs) i x refl lt is) there

-- ---- settling

pub unit_below : (n i : ℕ) (cs : List (List Literal)) (ws : Values) (x y : List Literal) (l : Literal) → All (AreBelow n) cs → i < length cs → x ≡ get_or cs i x → y ≡ x → IsUnit ws y l → l.var < n
unit_below n i cs ws x y l all lt is same u =
    all_has (λ (w : Literal). w.var < n) x l (all_has (AreBelow n) cs x all (read_has cs i x lt is)) (subst (λ w. Has w l) same u.has)

pub past_settles : (cs : List (List Literal)) (vs : Values) (i : ℕ) → length cs ≤ i → Settles cs vs vs i false
past_settles cs vs i le c there = let lt = slice_get_within cs i c there in absurd (omega (arith, le, lt))

pub open_settles : (cs : List (List Literal)) (vs : Values) (i : ℕ) (x y : List Literal) → i < length cs → x ≡ get_or cs i x → y ≡ x → IsOpen vs y → Settles cs vs vs i false
open_settles cs vs i x y lt is same o c there = go (subst (IsOpen vs) (read_clause cs i x y c lt is same there) o)
  where
    go : IsOpen vs c → IsTrueIn vs c ⊎ HasTwoUnvalued vs c
    go (inl t) = inl t
    go (inr t) = inr (record { one = t.0; two = t.1; has_one = t.2; has_two = t.3; one_unvalued = t.4; two_unvalued = t.5; differ = t.6 })

pub unit_settles : (cs : List (List Literal)) (vs ws : Values) (i : ℕ) (x y : List Literal) (l : Literal) → i < length cs → x ≡ get_or cs i x → y ≡ x → IsUnit vs y l → l.var < length vs → ws ≡ with_true vs l → Settles cs vs ws i false
unit_settles cs vs ws i x y l lt is same u below ws_is c there =
    inl (l, subst (λ w. Has w l) (read_clause cs i x y c lt is same there) u.has, ap (λ w. value_of w l.var) ws_is ∙ get_or-set_same vs l.var (Some l.on) None below)

-- ---- a look at one clause

has_of : (c : List Literal) (p : Pair) (m : Literal) → AreTwoOf c p → IsOf m p → Has c m
has_of c p m t (inl e) = subst (Has c) (sym e) t.first
has_of c p m t (inr e) = subst (Has c) (sym e) t.second

-- no clause stands past the end
pub past_stands : (cs : List (List Literal)) (ps : List Pair) (vs : Values) (i : ℕ) → (length ps ≤ i) ⊎ (length cs ≤ i) → (c : List Literal) (p : Pair) → AreWatchedAt cs ps i c p → IsTrueIn vs c
past_stands cs ps vs i (inl le) c p w = let lt = slice_get_within ps i p w.pair in absurd (omega (arith, le, lt))
past_stands cs ps vs i (inr le) c p w = let lt = slice_get_within cs i c w.clause in absurd (omega (arith, le, lt))

pub true_stands : (cs : List (List Literal)) (ps : List Pair) (vs : Values) (i : ℕ) (q : Pair) (other : Literal) → i < length ps → q ≡ get_or ps i q → IsOf other q → value_of vs other.var ≡ Some other.on →
    (c : List Literal) (p : Pair) → AreWatchedAt cs ps i c p → IsTrueIn vs c
true_stands cs ps vs i q other lt is of t c p w =
    let same : q ≡ p = one_item ps i q p (slice_get_read ps (length ps) i q refl lt is) w.pair in
    (other, has_of c p other w.two (subst (IsOf other) same of), t)

-- no other literal than one could be watched, and the clause was settled
pub settled_stands : (cs : List (List Literal)) (ps : List Pair) (vs ws : Values) (i : ℕ) (x y : List Literal) (other : Literal) → i < length cs → x ≡ get_or cs i x → y ≡ x →
    ((m : Literal) → Has y m → (m ≡ other) ⊎ IsFalse vs m) → Settles cs vs ws i false → (c : List Literal) (p : Pair) → AreWatchedAt cs ps i c p → IsTrueIn ws c
settled_stands cs ps vs ws i x y other lt is same only s c p w = go (s c w.clause)
  where
    each : (m : Literal) → Has c m → (m ≡ other) ⊎ IsFalse vs m
    each m h = only m (subst (λ k. Has k m) (sym (read_clause cs i x y c lt is same w.clause)) h)

    pair : (t : HasTwoUnvalued vs c) → (t.one ≡ other) ⊎ IsFalse vs t.one → (t.two ≡ other) ⊎ IsFalse vs t.two → ⊥
    pair t (inl d) (inl e) = t.differ (d ∙ sym e)
    pair t (inr f) _ = no_value vs t.one.var (not t.one.on) t.one_unvalued f
    pair t _ (inr f) = no_value vs t.two.var (not t.two.on) t.two_unvalued f

    go : IsTrueIn ws c ⊎ HasTwoUnvalued vs c → IsTrueIn ws c
    go (inl t) = t
    go (inr t) = absurd (pair t (each t.one t.has_one) (each t.two t.has_two))

-- ---- what is watched

pub true_within : (vs ws : Values) (c : List Literal) → IsWithin vs ws → IsTrueIn vs c → IsTrueIn ws c
true_within vs ws c within t = (t.0, t.1, within t.0.var t.0.on t.2)

pub fits_for : (cs : List (List Literal)) (ps qs : List Pair) (A B : Literal → ℕ → Type 0) → qs ≡ ps → ((m : Literal) (k : ℕ) → A m k → B m k) → Fits cs ps A → Fits cs qs B
fits_for cs ps qs A B same more f = subst (λ w. Fits cs w B) (sym same) (record { long = f.long; paired = f.paired; listed = λ k c p w m of. more m k (f.listed k c p w m of) })

-- the pairs are the same, and the lists have what they had
pub watched_more : (cs : List (List Literal)) (w z : Watches) (l : Literal) (list : List ℕ) → z.pairs.items ≡ w.pairs.items → AreMore w.lists z.lists → AreWatchedBut l list cs w → AreWatchedBut l list cs z
watched_more cs w z l list same more f = fits_for cs w.pairs.items z.pairs.items (IsListedBut w.lists l list) (IsListedBut z.lists l list) same go f
  where
    go : (m : Literal) (k : ℕ) → IsListedBut w.lists l list m k → IsListedBut z.lists l list m k
    go m k (inl r) = inl (r.0, more.kept m k r.1)
    go m k (inr r) = inr r

-- the list was taken out
pub watched_out : (cs : List (List Literal)) (ps : List Pair) (old new : Lists) (l : Literal) (list : List ℕ) →
    ((m : Literal) (k : ℕ) → IsListed old m k → ((m ≡ l → ⊥) × IsListed new m k) ⊎ ((m ≡ l) × Has list k)) → Fits cs ps (IsListed old) → Fits cs ps (IsListedBut new l list)
watched_out cs ps old new l list out f = fits_for cs ps ps (IsListed old) (IsListedBut new l list) refl out f

-- the list was put back
pub watched_back : (cs : List (List Literal)) (ps : List Pair) (old new : Lists) (l : Literal) (list none : List ℕ) →
    ((m : Literal) (k : ℕ) → IsListed old m k → ((m ≡ l → ⊥) × IsListed new m k) ⊎ ((m ≡ l) × Has none k)) → ((k : ℕ) → Has list k → IsListed new l k) → Fits cs ps (IsListedBut old l list) → Fits cs ps (IsListed new)
watched_back cs ps old new l list none out back f = fits_for cs ps ps (IsListedBut old l list) (IsListed new) refl go f
  where
    still : (m : Literal) (k : ℕ) → (m ≡ l → ⊥) → ((m ≡ l → ⊥) × IsListed new m k) ⊎ ((m ≡ l) × Has none k) → IsListed new m k
    still m k ne (inl r) = r.1
    still m k ne (inr r) = absurd (ne r.0)

    go : (m : Literal) (k : ℕ) → IsListedBut old l list m k → IsListed new m k
    go m k (inl r) = still m k r.0 (out m k r.1)
    go m k (inr r) = subst (λ w. IsListed new w k) (sym r.0) (back k r.1)

-- no clause watches a literal that has no list
pub uncovered_handled : (cs : List (List Literal)) (w : Watches) (ds vs : Values) (l : Literal) → (IsCovered w.lists l → ⊥) → AreWatched cs w → Handled cs w.pairs.items ds vs → HandledWith cs w.pairs.items ds l vs
uncovered_handled cs w ds vs l none fits h k c p at m of (inl f) = h k c p at m of f
uncovered_handled cs w ds vs l none fits h k c p at m of (inr e) =
    let there = subst (λ j. IsListed w.lists j k) e (fits.listed k c p at m of) in
    absurd (none (slice_get_within (lists_of w.lists l.on) l.var there.list there.there))

-- ---- a clause that watches another literal

pub short_differ : (c : List Literal) (p : Pair) → IsShort c → AreTwoOf c p → ⊥
short_differ c p s t = t.differ (s p.first p.second t.first t.second)

module _ (cs : List (List Literal)) (vs : Values) (w z : Watches) (l : Literal) (place : ℕ) (moved : IsMoved cs vs w.pairs.items z.pairs.items z.lists l place) where
  abbrev moved_pair : Pair
  moved_pair = record { first = moved.other; second = moved.next }

  same_there : (q : Pair) → slice_get z.pairs.items place ≡ Some q → q ≡ moved_pair
  same_there q e = one_item z.pairs.items place q moved_pair e (ap (λ k. slice_get k place) moved.now ∙ get_set_same w.pairs.items place moved_pair (slice_get_within w.pairs.items place moved.pair moved.was))

  same_off : (k : ℕ) (q : Pair) → (k ≡ place → ⊥) → slice_get z.pairs.items k ≡ Some q → slice_get w.pairs.items k ≡ Some q
  same_off k q ne e = sym (get_set_other w.pairs.items place k moved_pair ne) ∙ ap (λ j. slice_get j k) (sym moved.now) ∙ e

  -- the clause that watches it watched two literals
  was_two : (c : List Literal) (q : Pair) → ((k : ℕ) (d : List Literal) (p : Pair) → slice_get cs k ≡ Some d → slice_get w.pairs.items k ≡ Some p → AreTwoOf d p ⊎ IsShort d) → slice_get cs place ≡ Some c → AreTwoOf c q → AreWatchedAt cs w.pairs.items place c moved.pair
  was_two c q paired there two = go (paired place c moved.pair there moved.was)
    where
      go : AreTwoOf c moved.pair ⊎ IsShort c → AreWatchedAt cs w.pairs.items place c moved.pair
      go (inl t) = record { clause = there; pair = moved.was; two = t }
      go (inr s) = absurd (short_differ c q s two)

  not_next : IsFalse vs l → moved.next ≡ l → ⊥
  not_next f e = moved.not_false (subst (IsFalse vs) (sym e) f)

  pub moved_watched : (old new_list : List ℕ) → IsFalse vs l → AreMore w.lists z.lists → ((k : ℕ) → (k ≡ place → ⊥) → Has old k → Has new_list k) → AreWatchedBut l old cs w → AreWatchedBut l new_list cs z
  moved_watched old new_list f more rest fits = record {
    long = subst (λ (k : List Pair). length cs ≤ length k) (sym moved.now) (subst (λ k. length cs ≤ k) (sym (length-set w.pairs.items place moved_pair)) fits.long);
    paired = λ k c q there at. paired k c q there at (same_or_other k place);
    listed = λ k c q at m of. listed k c q at m of (same_or_other k place);
  }
    where
      two_now : (c : List Literal) (q : Pair) → slice_get cs place ≡ Some c → q ≡ moved_pair → AreTwoOf c moved.pair ⊎ IsShort c → AreTwoOf c q ⊎ IsShort c
      two_now c q there e (inr s) = inr s
      two_now c q there e (inl t) =
          let clause : moved.clause ≡ c = one_item cs place moved.clause c moved.there there in
          inl (subst (AreTwoOf c) (sym e) (record { first = has_of c moved.pair moved.other t moved.watched; second = subst (λ k. Has k moved.next) clause moved.has; differ = λ d. moved.differ (sym d) }))

      paired : (k : ℕ) (c : List Literal) (q : Pair) → slice_get cs k ≡ Some c → slice_get z.pairs.items k ≡ Some q → (k ≡ place) ⊎ (k ≡ place → ⊥) → AreTwoOf c q ⊎ IsShort c
      paired k c q there at (inl e) =
          let here = ap (slice_get cs) (sym e) ∙ there in
          two_now c q here (same_there q (ap (slice_get z.pairs.items) (sym e) ∙ at)) (fits.paired place c moved.pair here moved.was)
      paired k c q there at (inr ne) = fits.paired k c q there (same_off k q ne at)

      more_at : (m : Literal) (k : ℕ) → (k ≡ place → ⊥) → IsListedBut w.lists l old m k → IsListedBut z.lists l new_list m k
      more_at m k ne (inl r) = inl (r.0, more.kept m k r.1)
      more_at m k ne (inr r) = inr (r.0, rest k ne r.1)

      other_at : (c : List Literal) → AreWatchedAt cs w.pairs.items place c moved.pair → IsListedBut w.lists l old moved.other place → IsListedBut z.lists l new_list moved.other place
      other_at c at (inl r) = inl (r.0, more.kept moved.other place r.1)
      other_at c at (inr r) = absurd (moved.leaves at.two.differ r.0)

      of_new : (c : List Literal) (m : Literal) → AreWatchedAt cs w.pairs.items place c moved.pair → IsOf m moved_pair → IsListedBut z.lists l new_list m place
      of_new c m at (inl e) = subst (λ k. IsListedBut z.lists l new_list k place) (sym e) (other_at c at (fits.listed place c moved.pair at moved.other moved.watched))
      of_new c m at (inr e) = subst (λ k. IsListedBut z.lists l new_list k place) (sym e) (inl (not_next f, moved.listed))

      listed : (k : ℕ) (c : List Literal) (q : Pair) → AreWatchedAt cs z.pairs.items k c q → (m : Literal) → IsOf m q → (k ≡ place) ⊎ (k ≡ place → ⊥) → IsListedBut z.lists l new_list m k
      listed k c q at m of (inl e) =
          subst (IsListedBut z.lists l new_list m) (sym e)
          (of_new c m (was_two c q fits.paired (ap (slice_get cs) (sym e) ∙ at.clause) at.two) (subst (IsOf m) (same_there q (ap (slice_get z.pairs.items) (sym e) ∙ at.pair)) of))
      listed k c q at m of (inr ne) = more_at m k ne (fits.listed k c q (record { clause = at.clause; pair = same_off k q ne at.pair; two = at.two }) m of)

  pub moved_handled : (ds ws : Values) (rest left : List ℕ) → rest ≡ left ++ place ∷ [] → IsFalse vs l → IsWithin ds vs → IsWithin vs ws →
      ((k : ℕ) (d : List Literal) (p : Pair) → slice_get cs k ≡ Some d → slice_get w.pairs.items k ≡ Some p → AreTwoOf d p ⊎ IsShort d) → HandledBut cs w.pairs.items ds l rest vs → HandledBut cs z.pairs.items ds l left ws
  moved_handled ds ws rest left split f within grown paired h k c q at m of d = here (same_or_other k place)
    where
      other_true : AreWatchedAt cs w.pairs.items place c moved.pair → m ≡ moved.other → IsFalse ds m ⊎ (m ≡ l) → IsTrueIn ws c
      other_true was e (inr s) = absurd (moved.leaves was.two.differ (sym e ∙ s))
      other_true was e (inl g) = which (h place c moved.pair was moved.other moved.watched (inl (subst (IsFalse ds) e g)))
        where
          which : IsTrueIn vs c ⊎ ((moved.other ≡ l) × Has rest place) → IsTrueIn ws c
          which (inl t) = true_within vs ws c grown t
          which (inr r) = absurd (moved.leaves was.two.differ r.0)

      next_false : m ≡ moved.next → IsFalse ds m ⊎ (m ≡ l) → ⊥
      next_false e (inl g) = moved.not_false (subst (IsFalse vs) e (within m.var (not m.on) g))
      next_false e (inr s) = not_next f (sym e ∙ s)

      of_new : AreWatchedAt cs w.pairs.items place c moved.pair → IsOf m moved_pair → IsTrueIn ws c
      of_new was (inl e) = other_true was e d
      of_new was (inr e) = absurd (next_false e d)

      remain : (k ≡ place → ⊥) → Has (left ++ place ∷ []) k → Has left k
      remain ne r = which (has_split left (place ∷ []) k r)
        where
          which : Has left k ⊎ Has (place ∷ []) k → Has left k
          which (inl t) = t
          which (inr t) = absurd (ne (has_one place k t))

      off : (k ≡ place → ⊥) → IsTrueIn vs c ⊎ ((m ≡ l) × Has rest k) → IsTrueIn ws c ⊎ ((m ≡ l) × Has left k)
      off ne (inl t) = inl (true_within vs ws c grown t)
      off ne (inr r) = inr (r.0, remain ne (subst (λ j. Has j k) split r.1))

      here : (k ≡ place) ⊎ (k ≡ place → ⊥) → IsTrueIn ws c ⊎ ((m ≡ l) × Has left k)
      here (inl e) =
          inl (of_new (was_two c q paired (ap (slice_get cs) (sym e) ∙ at.clause) at.two) (subst (IsOf m) (same_there q (ap (slice_get z.pairs.items) (sym e) ∙ at.pair)) of))
      here (inr ne) = off ne (h k c q (record { clause = at.clause; pair = same_off k q ne at.pair; two = at.two }) m of d)

-- ---- a clause that stays

pub stays_handled : (cs : List (List Literal)) (ps qs : List Pair) (ds vs ws : Values) (l : Literal) (place : ℕ) (rest left : List ℕ) → rest ≡ left ++ place ∷ [] → IsWithin vs ws → qs ≡ ps →
    ((c : List Literal) (p : Pair) → AreWatchedAt cs ps place c p → IsTrueIn ws c) → HandledBut cs ps ds l rest vs → HandledBut cs qs ds l left ws
stays_handled cs ps qs ds vs ws l place rest left split grown same stands h = subst (λ k. HandledBut cs k ds l left ws) (sym same) (λ k c p at m of d. go k c p at m (h k c p at m of d))
  where
    now : (k : ℕ) (c : List Literal) (p : Pair) (m : Literal) → AreWatchedAt cs ps k c p → m ≡ l → Has left k ⊎ Has (place ∷ []) k → IsTrueIn ws c ⊎ ((m ≡ l) × Has left k)
    now k c p m at e (inl t) = inr (e, t)
    now k c p m at e (inr t) = inl (stands c p (subst (λ j. AreWatchedAt cs ps j c p) (has_one place k t) at))

    go : (k : ℕ) (c : List Literal) (p : Pair) → AreWatchedAt cs ps k c p → (m : Literal) → IsTrueIn vs c ⊎ ((m ≡ l) × Has rest k) → IsTrueIn ws c ⊎ ((m ≡ l) × Has left k)
    go k c p at m (inl t) = inl (true_within vs ws c grown t)
    go k c p at m (inr r) = now k c p m at r.0 (has_split left (place ∷ []) k (subst (λ j. Has j k) split r.1))

-- ---- begin and end

pub handled_first : (cs : List (List Literal)) (w : Watches) (ds vs : Values) (l : Literal) (list : List ℕ) → AreWatchedBut l list cs w → Handled cs w.pairs.items ds vs → HandledBut cs w.pairs.items ds l list vs
handled_first cs w ds vs l list fits h k c p at m of d = go d
  where
    listed : m ≡ l → IsListedBut w.lists l list m k → IsTrueIn vs c ⊎ ((m ≡ l) × Has list k)
    listed e (inl r) = absurd (r.0 e)
    listed e (inr r) = inr r

    go : IsFalse ds m ⊎ (m ≡ l) → IsTrueIn vs c ⊎ ((m ≡ l) × Has list k)
    go (inl f) = inl (h k c p at m of f)
    go (inr e) = listed e (fits.listed k c p at m of)

pub handled_last : (cs : List (List Literal)) (ps : List Pair) (ds vs : Values) (l : Literal) → HandledBut cs ps ds l [] vs → HandledWith cs ps ds l vs
handled_last cs ps ds vs l h k c p at m of d = go (h k c p at m of d)
  where
    go : IsTrueIn vs c ⊎ ((m ≡ l) × Has [] k) → IsTrueIn vs c
    go (inl t) = t
    go (inr r) = absurd (has_none k r.1)
