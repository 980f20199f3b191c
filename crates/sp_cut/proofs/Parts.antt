-- What going through bytes says of their parts.
use Rattle.std.proofs.Common.{◌≡◌, ℕ, ◌+◌, ◌%◌, Bool, true, false, ◌&&◌, not, ◌==◌, List, [], ◌∷◌, ◌++◌, length, refl, sym, ◌∙◌, ap, arith, append_assoc, length-append}
use Rattle.std.specs.Prelude.{if◌then◌else◌, filter, Option, Some, None}
use Rattle.std.specs.List.{onto_first}
use Rattle.std.proofs.lemmas.Bool.Decides.{nat_tests}
use Rattle.std.proofs.lemmas.List.Elements.{filter-append}
use Rattle.std.proofs.lemmas.List.{append-nil}
use Rattle.sp_cut.specs.CutRows.{quotes, is_even, parts_after, rows_of_parts, rest_rows, ended_part, plain_rows}
use Rattle.sp_cut.specs.Scan.{quoted_behind, scan}

-- the parts of bytes behind others of which only this is known: whether a quote is open
abbrev pub parts_behind : Bool → List ℕ → List (List ℕ)
parts_behind quoted [] = [] ∷ []
parts_behind quoted (b ∷ bs) = if b == 10 && not quoted then [] ∷ parts_behind (quoted_behind quoted b) bs else onto_first b (parts_behind (quoted_behind quoted b) bs)

-- bytes in front of the first of parts
abbrev pub onto : List ℕ → List (List ℕ) → List (List ℕ)
onto [] parts = parts
onto (b ∷ bs) parts = onto_first b (onto bs parts)

-- one quote more turns even to odd and back
next_parity : (n : ℕ) (b : ℕ) (is_quote quoted : Bool) → (n % 2 == 0) ≡ not quoted →
    ((n + length (if is_quote then b ∷ [] else [])) % 2 == 0) ≡ not (if is_quote then not quoted else quoted)
next_parity n b true true even = grind (arith, nat_tests)
next_parity n b true false even = grind (arith, nat_tests)
next_parity n b false quoted even = grind (arith, nat_tests)

-- one byte more at the end turns the parity where it is a quote
even_push : (before : List ℕ) (b : ℕ) (quoted : Bool) → is_even before ≡ not quoted → is_even (before ++ b ∷ []) ≡ not (quoted_behind quoted b)
even_push before b quoted even =
    let more : quotes (before ++ b ∷ []) ≡ quotes before + length (if b == 34 then b ∷ [] else []) =
    ap length (filter-append (λ (b : ℕ). b == 34) before (b ∷ [])) ∙ length-append (filter (λ (b : ℕ). b == 34) before) (if b == 34 then b ∷ [] else []) in
    ap (λ (n : ℕ). n % 2 == 0) more ∙ next_parity (quotes before) b (b == 34) quoted even

-- bytes before matter by their quotes alone
pub parts_by_state : (before bytes : List ℕ) (quoted : Bool) → is_even before ≡ not quoted → parts_after before bytes ≡ parts_behind quoted bytes
parts_by_state before [] quoted even = refl
parts_by_state before (b ∷ bs) quoted even =
    let rest : parts_after (before ++ b ∷ []) bs ≡ parts_behind (quoted_behind quoted b) bs = parts_by_state (before ++ b ∷ []) bs (quoted_behind quoted b) (even_push before b quoted even) in
    λ i. if b == 10 && even i then [] ∷ rest i else onto_first b (rest i)

-- where bytes go on, no row ended at the first of them
goes_on : {X : Type 0} (ends : Bool) (next : Option X) (x : X) → (if ends then None else next) ≡ Some x → (ends ≡ false) × (next ≡ Some x)
goes_on true next x is = absurd (cc)
goes_on false next x is = (refl, is)

-- the state behind bytes is the parity of their quotes
scan_parity : (before bytes : List ℕ) (quoted state : Bool) → is_even before ≡ not quoted → scan quoted bytes ≡ Some state → is_even (before ++ bytes) ≡ not state
scan_parity before [] quoted state even is =
    let same : quoted ≡ state = cc in
    ap is_even (append-nil before) ∙ even ∙ ap not same
scan_parity before (b ∷ bs) quoted state even is =
    let next = goes_on (b == 10 && not quoted) (scan (quoted_behind quoted b) bs) state is in
    ap is_even (sym (append_assoc before (b ∷ []) bs)) ∙ scan_parity (before ++ b ∷ []) bs (quoted_behind quoted b) state (even_push before b quoted even) next.1

-- the state behind the first bytes is whether a quote is open
pub scan_even : (bytes : List ℕ) (state : Bool) → scan false bytes ≡ Some state → is_even bytes ≡ not state
scan_even bytes state is = scan_parity [] bytes false state refl is

-- going through more bytes begins with the state behind the first
pub scan_more : (quoted : Bool) (bytes more : List ℕ) (state : Bool) → scan quoted bytes ≡ Some state → scan quoted (bytes ++ more) ≡ scan state more
scan_more quoted [] more state is = let same : quoted ≡ state = cc in ap (λ (q : Bool). scan q more) same
scan_more quoted (b ∷ bs) more state is =
    let next = goes_on (b == 10 && not quoted) (scan (quoted_behind quoted b) bs) state is in
    ap (λ (ends : Bool). if ends then None else scan (quoted_behind quoted b) (bs ++ more)) next.0 ∙ scan_more (quoted_behind quoted b) bs more state next.1

-- bytes among which no row ends lie in one part with what follows
onto_rest : (quoted : Bool) (bytes more : List ℕ) (state : Bool) → scan quoted bytes ≡ Some state → parts_behind quoted (bytes ++ more) ≡ onto bytes (parts_behind state more)
onto_rest quoted [] more state is = let same : quoted ≡ state = cc in ap (λ (q : Bool). parts_behind q more) same
onto_rest quoted (b ∷ bs) more state is =
    let next = goes_on (b == 10 && not quoted) (scan (quoted_behind quoted b) bs) state is in
    let parts = parts_behind (quoted_behind quoted b) (bs ++ more) in
    ap (λ (ends : Bool). if ends then [] ∷ parts else onto_first b parts) next.0 ∙ ap (onto_first b) (onto_rest (quoted_behind quoted b) bs more state next.1)

-- bytes in front of parts are bytes in front of the first
pub onto_cons : (bytes part : List ℕ) (parts : List (List ℕ)) → onto bytes (part ∷ parts) ≡ (bytes ++ part) ∷ parts
onto_cons [] part parts = refl
onto_cons (b ∷ bs) part parts = ap (onto_first b) (onto_cons bs part parts)

-- bytes among which no row ends are one part
pub one_part : (bytes : List ℕ) (state : Bool) → scan false bytes ≡ Some state → parts_after [] bytes ≡ bytes ∷ []
one_part bytes state is =
    parts_by_state [] bytes false refl
    ∙ ap (parts_behind false) (sym (append-nil bytes))
    ∙ onto_rest false bytes [] state is
    ∙ onto_cons bytes [] []
    ∙ ap (λ (part : List ℕ). part ∷ []) (append-nil bytes)

-- the first part ends at the first line feed that ends a row
pub first_part : (part more : List ℕ) → scan false part ≡ Some false → parts_after [] (part ++ 10 ∷ more) ≡ part ∷ parts_after [] more
first_part part more is =
    parts_by_state [] (part ++ 10 ∷ more) false refl
    ∙ onto_rest false part (10 ∷ more) false is
    ∙ onto_cons part [] (parts_behind false more)
    ∙ ap (λ (first : List ℕ). first ∷ parts_behind false more) (append-nil part)
    ∙ ap (λ (parts : List (List ℕ)). part ∷ parts) (sym (parts_by_state [] more false refl))

-- a part in front of further ones is a row
cut_cons : (ended : Bool) (part more : List ℕ) → rows_of_parts ended (part ∷ parts_after [] more) ≡ ended_part part ∷ plain_rows more ended
cut_cons ended part [] = refl
cut_cons ended part (b ∷ bs) = by (b == 10 && true) (parts_after (b ∷ []) bs)
  where
    onto_is : (parts : List (List ℕ)) → rows_of_parts ended (part ∷ onto_first b parts) ≡ ended_part part ∷ rows_of_parts ended (onto_first b parts)
    onto_is [] = refl
    onto_is (next ∷ parts) = refl

    by : (ends : Bool) (parts : List (List ℕ)) →
        rows_of_parts ended (part ∷ (if ends then [] ∷ parts else onto_first b parts)) ≡ ended_part part ∷ rows_of_parts ended (if ends then [] ∷ parts else onto_first b parts)
    by true parts = refl
    by false parts = onto_is parts

-- a row ends at the first line feed that ends one
pub row_ends : (part more : List ℕ) (ended : Bool) → scan false part ≡ Some false → plain_rows (part ++ 10 ∷ more) ended ≡ ended_part part ∷ plain_rows more ended
row_ends part more ended is = ap (rows_of_parts ended) (first_part part more is) ∙ cut_cons ended part more

-- bytes among which no row ends are the rest
pub rest_is : (rest : List ℕ) (ended state : Bool) → scan false rest ≡ Some state → plain_rows rest ended ≡ rest_rows ended rest
rest_is rest ended state is = ap (rows_of_parts ended) (one_part rest state is)
