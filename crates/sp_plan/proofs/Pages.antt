-- Where pairs in pages stand, and what is left when the last one goes.
use Rattle.std.proofs.Common.{◌≡◌, ℕ, ◌+◌, ◌-◌, ◌*◌, ◌/◌, ◌%◌, ◌<◌, ◌≤◌, arith, List, [], ◌∷◌, ◌++◌, length, get_or, take, drop, refl, sym, ◌∙◌, ap, subst, take-append-drop}
use Rattle.std.specs.List.{All}
use Rattle.std.proofs.lemmas.List.{append-nil, length-append, length-take-le, take_all, take-take, take-append-le, get_or-take, get_or_append_left, get_or-append_right}
use Rattle.std.proofs.lemmas.List.Concat.{get_or-flat_map}
use Rattle.std.proofs.lemmas.Grind.{flat_map-append}
use Rattle.std.proofs.lemmas.List.Elements.{All-head, All-tail, All-take, All-get_or}
use Rattle.sp_plan.specs.declared.pairs.Pair.{Pair}
use Rattle.sp_plan.specs.Pages.{joined, Paged}

length_joined : (pages : List (List Pair)) → All (λ page. length page ≡ 32) pages → length (joined pages) ≡ 32 * length pages
length_joined [] full = refl
length_joined (p ∷ pages) full =
    let head : length p ≡ 32 = All-head (λ (page : List Pair). length page ≡ 32) p pages full in
    let rest : length (joined pages) ≡ 32 * length pages = length_joined pages (All-tail (λ (page : List Pair). length page ≡ 32) p pages full) in
    let both : length (p ++ joined pages) ≡ length p + length (joined pages) = length-append p (joined pages) in
    omega arith

length_front : (pages : List (List Pair)) (paged : ℕ) → Paged pages paged → length (take paged (joined pages)) ≡ paged
length_front pages paged h = length-take-le paged (joined pages) (omega (arith, length_joined pages h.full, h.within))

-- ---- where a pair stands

pub length_shown : (pages : List (List Pair)) (paged : ℕ) (tail : List Pair) → Paged pages paged → length (take paged (joined pages) ++ tail) ≡ paged + length tail
length_shown pages paged tail h =
    let front : length (take paged (joined pages)) ≡ paged = length_front pages paged h in
    omega (arith, length-append (take paged (joined pages)) tail, front)

pub in_tail : (pages : List (List Pair)) (paged : ℕ) (tail : List Pair) (i : ℕ) (d : Pair) → Paged pages paged → paged ≤ i → get_or (take paged (joined pages) ++ tail) i d ≡ get_or tail (i - paged) d
in_tail pages paged tail i d h behind =
    let front : length (take paged (joined pages)) ≡ paged = length_front pages paged h in
    get_or-append_right (take paged (joined pages)) tail paged i d front behind

pub in_page : (pages : List (List Pair)) (paged : ℕ) (tail : List Pair) (i : ℕ) (e : List Pair) (d : Pair) → Paged pages paged → i < paged
    → get_or (take paged (joined pages) ++ tail) i d ≡ get_or (get_or pages (i / 32) e) (i % 32) d
in_page pages paged tail i e d h inside =
    let full = λ (page : List Pair). length page ≡ 32 in
    let front : length (take paged (joined pages)) ≡ paged = length_front pages paged h in
    let there : i / 32 < length pages = omega (arith, h.within) in
    let size : length (take (i / 32) pages) ≡ i / 32 = length-take-le (i / 32) pages (omega arith) in
    let before : length (joined (take (i / 32) pages)) ≡ 32 * length (take (i / 32) pages) = length_joined (take (i / 32) pages) (All-take full (i / 32) pages h.full) in
    let own : length (get_or pages (i / 32) e) ≡ 32 = All-get_or full pages (i / 32) e there h.full in
    let place : length (joined (take (i / 32) pages)) + i % 32 ≡ i = omega arith in
    get_or_append_left (take paged (joined pages)) tail d i (omega arith)
    ∙ get_or-take paged (joined pages) i d inside
    ∙ subst (λ n. get_or (joined pages) n d ≡ get_or (get_or pages (i / 32) e) (i % 32) d) place
    (get_or-flat_map (λ (page : List Pair). page) pages (i / 32) (i % 32) e d there (omega arith))

-- ---- a page more

pub turned : (pages : List (List Pair)) (paged : ℕ) (tail : List Pair) → Paged pages paged → paged % 32 ≡ 0 → length tail ≡ 32
    → take (paged + 32) (joined (pages ++ tail ∷ [])) ++ [] ≡ take paged (joined pages) ++ tail
turned pages paged tail h even size =
    let all : length (joined pages) ≡ 32 * length pages = length_joined pages h.full in
    let whole : joined (pages ++ tail ∷ []) ≡ joined pages ++ tail = flat_map-append (λ (page : List Pair). page) pages (tail ∷ []) ∙ ap (λ l. joined pages ++ l) (append-nil tail) in
    let long : length (joined pages ++ tail) ≤ paged + 32 = omega (arith, length-append (joined pages) tail, h.within, h.needed) in
    append-nil (take (paged + 32) (joined (pages ++ tail ∷ [])))
    ∙ ap (take (paged + 32)) whole
    ∙ take_all (paged + 32) (joined pages ++ tail) long
    ∙ sym (ap (λ l. l ++ tail) (take_all paged (joined pages) (omega (arith, h.needed))))

-- ---- a pair less

nothing : (xs : List Pair) → length xs ≡ 0 → xs ≡ []
nothing [] none = refl
nothing (x ∷ xs) none = absurd (omega (arith, none))

pub less_in_page : (pages kept : List (List Pair)) (m paged : ℕ) (tail : List Pair) → Paged pages paged → kept ≡ take m pages → paged - 1 ≤ 32 * length kept → 0 < paged → length tail ≡ 0
    → take (paged - 1) (joined kept) ++ tail ≡ take (length (take paged (joined pages) ++ tail) - 1) (take paged (joined pages) ++ tail)
less_in_page pages kept m paged tail h split enough some none =
    let full = λ (page : List Pair). length page ≡ 32 in
    let front : length (take paged (joined pages)) ≡ paged = length_front pages paged h in
    let whole : joined pages ≡ joined kept ++ joined (drop m pages) =
    ap joined (sym (take-append-drop m pages)) ∙ flat_map-append (λ (page : List Pair). page) (take m pages) (drop m pages) ∙ ap (λ l. joined l ++ joined (drop m pages)) (sym split) in
    let left : length (joined kept) ≡ 32 * length kept = length_joined kept (subst (All full) (sym split) (All-take full m pages h.full)) in
    let less : take (paged - 1) (joined pages) ≡ take (paged - 1) (joined kept) = ap (take (paged - 1)) whole ∙ take-append-le (paged - 1) (joined kept) (joined (drop m pages)) (omega (arith, left, enough)) in
    let shown : take paged (joined pages) ++ tail ≡ take paged (joined pages) = ap (λ l. take paged (joined pages) ++ l) (nothing tail none) ∙ append-nil (take paged (joined pages)) in
    ap (λ l. take (paged - 1) (joined kept) ++ l) (nothing tail none)
    ∙ append-nil (take (paged - 1) (joined kept))
    ∙ sym less
    ∙ sym (take-take (paged - 1) paged (joined pages) (omega arith))
    ∙ ap (λ n. take (n - 1) (take paged (joined pages))) (sym front)
    ∙ ap (λ l. take (length l - 1) l) (sym shown)
