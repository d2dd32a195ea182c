-- Known bytes with more behind them or in front of them, piece after piece.
use Rattle.std.proofs.Common.{◌≡◌, ℕ, ◌+◌, ◌<◌, ◌≤◌, List, [], ◌++◌, length, take, drop, Some, None, refl, ap, sym, ◌∙◌, arith, append_assoc, subst, length-append, ◌-◌, Result, Ok, IfOk, is_ok, if◌then◌else◌, min}
use Rattle.std.proofs.lemmas.List.{take-append-drop, length-drop, length-take, take_rest, take-append-le, drop-drop, nil_from_length}
use Rattle.std.proofs.Math.Seq.{take-add, take_all}
use Rattle.cide_io.specs.Known.{Known, appended, preceded, IsAtEnd, IsPut, IsTaken}
use Rattle.cide_io.specs.declared.faults.Failed.{Failed}

pub appended-appended : (old : Known) (first second : List ℕ) → appended (appended old first) second ≡ appended old (first ++ second)
appended-appended None first second = refl
appended-appended (Some bytes) first second = ap Some (append_assoc bytes first second)

pub preceded-nil : (rest : Known) → preceded [] rest ≡ rest
preceded-nil None = refl
preceded-nil (Some bytes) = refl

pub preceded-preceded : (first second : List ℕ) (rest : Known) → preceded first (preceded second rest) ≡ preceded (first ++ second) rest
preceded-preceded first second None = refl
preceded-preceded first second (Some bytes) = ap Some (sym (append_assoc first second bytes))

appended-take : (old now later : Known) (text : List ℕ) (done count : ℕ)
    → now ≡ appended old (take done text) → later ≡ appended now (take count (drop done text)) → later ≡ appended old (take (done + count) text)
appended-take old now later text done count p q =
    q ∙ ap (λ k. appended k (take count (drop done text))) p ∙ appended-appended old (take done text) (take count (drop done text))
    ∙ ap (appended old) (sym (take-add done count text))

-- the rest of a text, as the code takes it
abbrev pub rest_of : List ℕ → ℕ → List ℕ
rest_of text done = take (length text - done) (drop done text)

-- One more piece of a text was put.
pub put_more : (old now later : Known) (text : List ℕ) (done count : ℕ) (r : Result ℕ Failed)
    → now ≡ appended old (take done text) → r ≡ Ok count → IsPut now later (rest_of text done) r → later ≡ appended old (take (done + count) text)
put_more old now later text done count r p is h =
    let put : later ≡ appended now (take count (rest_of text done)) = subst (IsPut now later (rest_of text done)) is h in
    appended-take old now later text done count p (put ∙ ap (λ t. appended now (take count t)) (take_rest text done))

pub put_within : (text : List ℕ) (done count : ℕ) (r : Result ℕ Failed)
    → done < length text → r ≡ Ok count → IfOk r (λ n. (0 < n) × (n ≤ length (rest_of text done))) → (0 < count) × (done + count ≤ length text)
put_within text done count r d is h =
    let P : Result ℕ Failed → Type 0 = λ v. IfOk v (λ n. (0 < n) × (n ≤ length (rest_of text done))) in
    let b : (0 < count) × (count ≤ length (rest_of text done)) = subst P is h in
    let e : length (rest_of text done) ≡ length text - done = ap length (take_rest text done) ∙ length-drop done text in
    (b.0, omega arith)

-- one more piece of what was left
pub preceded-take : (old now later : Known) (came more : List ℕ)
    → old ≡ preceded came now → now ≡ preceded more later → old ≡ preceded (came ++ more) later
preceded-take old now later came more p q = p ∙ ap (preceded came) q ∙ preceded-preceded came more later

-- No byte came, so the source is at its end.
pub ends : (old now later : Known) (came into : List ℕ) (count : ℕ)
    → old ≡ preceded came now → now ≡ preceded (take count into) later → count ≡ 0 → (count ≡ 0 → IsAtEnd now)
    → (old ≡ preceded came later) × IsAtEnd later
ends old now later came into count p q z h =
    let P : ℕ → Type 0 = λ n. now ≡ preceded (take n into) later in
    let same : now ≡ later = subst P z q ∙ preceded-nil later in
    (p ∙ ap (preceded came) same, subst IsAtEnd same (h z))

-- the length with one more piece
pub length-with : (came into : List ℕ) (count : ℕ) → count ≤ length into → length (came ++ take count into) ≡ length came + count
length-with came into count h = omega (arith, length-append came (take count into), length-take count into)

-- what a take that succeeded gave
pub taken : (now later : Known) (into : List ℕ) (count : ℕ) (r : Result ℕ Failed)
    → r ≡ Ok count → IsTaken now later into r → (now ≡ preceded (take count into) later) × (count ≡ 0 → IsAtEnd now)
taken now later into count r is h = subst (IsTaken now later into) is h

pub taken_within : (into : List ℕ) (count : ℕ) (r : Result ℕ Failed) → r ≡ Ok count → IfOk r (λ n. n ≤ length into) → count ≤ length into
taken_within into count r is h = let P : Result ℕ Failed → Type 0 = λ v. IfOk v (λ n. n ≤ length into) in subst P is h

-- A slice that is written back is what the buffer holds.
pub written_back : (into rest : List ℕ) (n : ℕ) → length into ≡ n → take n (into ++ rest) ≡ into
written_back into rest n e = take-append-le n into rest (omega arith) ∙ take_all n into (omega arith)

-- what more was appended, where there was room for it
pub appended_items : {E : Type 0} (old now more : List ℕ) (r : Result Unit E) (u : Unit) → r ≡ Ok u → now ≡ (if is_ok r then old ++ more else old) → now ≡ old ++ more
appended_items {E} old now more r u is h =
    let P : Result Unit E → Type 0 = λ v. now ≡ (if is_ok v then old ++ more else old) in subst P is h

-- What is left of some bytes begins with what was copied to the front of a slice.
pub copied_front : (bytes given into copied tail : List ℕ) (taken count : ℕ)
    → given ≡ bytes → count ≡ min (length (rest_of given taken)) (length into) → length copied ≡ length (take count into) → copied ≡ take count (rest_of given taken)
    → drop taken bytes ≡ take count (copied ++ tail) ++ drop (taken + count) bytes
copied_front bytes given into copied tail taken count g m l p =
    let size : length copied ≡ count = omega (arith, length-take count into) in
    let rest : rest_of given taken ≡ drop taken bytes = take_rest given taken ∙ ap (drop taken) g in
    let front : take count (copied ++ tail) ≡ take count (drop taken bytes) = written_back copied tail count size ∙ p ∙ ap (take count) rest in
    sym (ap (λ f. f ++ drop (taken + count) bytes) front ∙ ap (λ b. take count (drop taken bytes) ++ b) (sym (drop-drop count taken bytes)) ∙ take-append-drop count (drop taken bytes))

-- Where there was room and nothing was copied, nothing is left.
pub nothing_left : (bytes given into : List ℕ) (taken count : ℕ)
    → given ≡ bytes → count ≡ min (length (rest_of given taken)) (length into) → 0 < length into → count ≡ 0 → drop taken bytes ≡ []
nothing_left bytes given into taken count g m h z =
    sym (take_rest given taken ∙ ap (drop taken) g) ∙ nil_from_length (rest_of given taken) (omega arith)
