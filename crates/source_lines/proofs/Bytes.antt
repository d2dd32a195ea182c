-- Where the bytes of a window lie in its buffer.
use Rattle.std.proofs.Common.{◌≡◌, ℕ, ◌+◌, ◌-◌, ◌≤◌, List, ◌++◌, length, take, drop, sym, ap, ap₂, ◌∙◌, arith, append_assoc}
use Rattle.std.proofs.Math.Seq.{take-append-add}
use Rattle.std.proofs.lemmas.List.{drop-take, drop-drop, drop-append-le, take-take, take-append-le, length-take, length-drop}

-- the bytes between two places
abbrev pub window : ℕ → ℕ → List ℕ → List ℕ
window from to items = take (to - from) (drop from items)

pub length-window : (from to : ℕ) (items : List ℕ) → from ≤ to → to ≤ length items → length (window from to items) ≡ to - from
length-window from to items h k = omega (arith, length-take (to - from) (drop from items), length-drop from items)

-- The first bytes were passed.
pub window-passed : (from to count : ℕ) (items : List ℕ) → from + count ≤ to → window (from + count) to items ≡ drop count (window from to items)
window-passed from to count items h =
    let left = to - (from + count) in
    let size : to - from ≡ count + left = omega arith in
    sym (ap (λ k. drop count (take k (drop from items))) size ∙ drop-take count left (drop from items) ∙ ap (take left) (drop-drop count from items))

-- More bytes came behind them: what a buffer holds once a slice of it, from the end of the window on, was written.
pub window-filled : (from to count left len : ℕ) (items lent into post tail : List ℕ) → lent ≡ items → from ≤ to → to ≤ length items → left ≡ to + count - from → to + count ≤ len → count ≤ length into
    → take left (drop from (take len (take to lent ++ (into ++ post) ++ tail))) ≡ window from to items ++ take count into
window-filled from to count left len items lent into post tail same h k l room some =
    let size = to - from in
    let bytes = window from to items in
    let behind = into ++ (post ++ tail) in
    let whole : take to lent ++ (into ++ post) ++ tail ≡ take to items ++ behind =
    append_assoc (take to lent) (into ++ post) tail ∙ ap₂ (λ (a b : List ℕ). take to a ++ b) same (append_assoc into post tail) in
    let cut : len ≡ from + (len - from) = omega arith in
    let to_is : to ≡ from + size = omega arith in
    let front : drop from (take to items) ≡ bytes = ap (λ n. drop from (take n items)) to_is ∙ drop-take from size items in
    let more : left ≡ length bytes + count = omega (arith, length-window from to items h k) in
    ap (λ n. take left (drop from (take n (take to lent ++ (into ++ post) ++ tail)))) cut
    ∙ ap (take left) (drop-take from (len - from) (take to lent ++ (into ++ post) ++ tail))
    ∙ take-take left (len - from) (drop from (take to lent ++ (into ++ post) ++ tail)) (omega arith)
    ∙ ap (λ b. take left (drop from b)) whole
    ∙ ap (take left) (drop-append-le from (take to items) behind (omega (arith, length-take to items)) ∙ ap (λ b. b ++ behind) front)
    ∙ ap (λ n. take n (bytes ++ behind)) more
    ∙ take-append-add bytes behind count
    ∙ ap (λ b. bytes ++ b) (take-append-le count into (post ++ tail) some)
