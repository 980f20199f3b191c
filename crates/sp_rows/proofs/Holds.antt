-- Cells that are kept by the places of their commas: a byte more, and a cell more.
use Rattle.std.proofs.Common.{◌≡◌, ℕ, ◌+◌, ◌-◌, ◌<◌, ◌≤◌, List, [], ◌∷◌, ◌++◌, length, take, drop, refl, sym, ◌∙◌, ap, subst, length-drop, length-append, arith}
use Rattle.std.proofs.lemmas.List.{drop-append-le, take-append-le, drop_all}
use Rattle.std.proofs.Math.Seq.{take-append_seam}
use Rattle.sp_rows.specs.Plain.{piece, pieces}
use Rattle.sp_rows.specs.Held.{Held}
use Rattle.sp_rows.specs.Holding.{Rise}

-- the last place is not below the first
rise_up : (start : ℕ) (nexts : List ℕ) (last : ℕ) → Rise start nexts last → start ≤ last
rise_up start [] last rise = omega (arith, rise)
rise_up start (next ∷ nexts) last rise = let rest = rise_up next nexts last rise.1 in omega (arith, rise.0)

-- a place more
pub rise_more : (start : ℕ) (nexts : List ℕ) (last more : ℕ) → Rise start nexts last → last < more → Rise start (nexts ++ more ∷ []) more
rise_more start [] last more rise past = (omega (arith, rise), refl)
rise_more start (next ∷ nexts) last more rise past = (rise.0, rise_more next nexts last more rise.1 past)

-- a piece stays where bytes come behind
piece_stays : (row more : List ℕ) (start next : ℕ) → start < next → next ≤ length row → piece (row ++ more) start next ≡ piece row start next
piece_stays row more start next up within =
    ap (take (next - 1 - start)) (drop-append-le start row more (omega arith))
    ∙ take-append-le (next - 1 - start) (drop start row) more (omega (arith, length-drop start row))

-- so do all
pub pieces_stay : (row more : List ℕ) (start : ℕ) (nexts : List ℕ) (last : ℕ) → Rise start nexts last → last ≤ length row → pieces (row ++ more) start nexts ≡ pieces row start nexts
pieces_stay row more start [] last rise within = refl
pieces_stay row more start (next ∷ nexts) last rise within =
    let up = rise_up next nexts last rise.1 in
    λ i. piece_stays row more start next rise.0 (omega arith) i ∷ pieces_stay row more next nexts last rise.1 within i

-- what stands behind the last place is a cell more, where a comma comes behind it
pub cell_more : (row : List ℕ) (comma start : ℕ) (nexts : List ℕ) (last : ℕ) → Rise start nexts last → last ≤ length row
    → pieces (row ++ comma ∷ []) start (nexts ++ (length row + 1) ∷ []) ≡ pieces row start nexts ++ drop last row ∷ []
cell_more row comma start [] last rise within =
    let count : length row + 1 - 1 - start ≡ length (drop start row) = omega (arith, rise, length-drop start row) in
    let cell : piece (row ++ comma ∷ []) start (length row + 1) ≡ drop start row =
    ap (λ (n : ℕ). take n (drop start (row ++ comma ∷ []))) count
    ∙ ap (take (length (drop start row))) (drop-append-le start row (comma ∷ []) (omega (arith, rise)))
    ∙ take-append_seam (drop start row) (comma ∷ []) in
    ap (λ (l : List ℕ). l ∷ []) (cell ∙ ap (λ (n : ℕ). drop n row) rise)
cell_more row comma start (next ∷ nexts) last rise within =
    let up = rise_up next nexts last rise.1 in
    λ i. piece_stays row (comma ∷ []) start next rise.0 (omega arith) i ∷ cell_more row comma next nexts last rise.1 within i

-- the cells and the cell at hand, by what they are kept in
abbrev pub held : List ℕ → List ℕ → ℕ → Held
held bytes nexts start = record { cells = pieces bytes 0 nexts; cell = drop start bytes }

-- a byte more of the cell at hand
pub byte_held : (bytes more nexts : List ℕ) (start b : ℕ) (was : Held) → Rise 0 nexts start → start ≤ length bytes → more ≡ bytes ++ b ∷ [] → held bytes nexts start ≡ was
    → held more nexts start ≡ record { cells = was.cells; cell = was.cell ++ b ∷ [] }
byte_held bytes more nexts start b was rise within is same =
    ap (λ (l : List ℕ). held l nexts start) is
    ∙ (λ i. record { cells = pieces_stay bytes (b ∷ []) 0 nexts start rise within i; cell = drop-append-le start bytes (b ∷ []) within i })
    ∙ ap (λ (h : Held). record { cells = h.cells; cell = h.cell ++ b ∷ [] }) same

-- a comma behind the cell at hand, which is then the last one
pub cell_held : (bytes more nexts places : List ℕ) (start last comma : ℕ) (was : Held) → Rise 0 nexts start → start ≤ length bytes → more ≡ bytes ++ comma ∷ [] → last ≡ length more
    → places ≡ nexts ++ last ∷ [] → held bytes nexts start ≡ was → held more places last ≡ record { cells = was.cells ++ was.cell ∷ []; cell = [] }
cell_held bytes more nexts places start last comma was rise within is end are same =
    let long : last ≡ length bytes + 1 = omega (arith, end, ap (λ (l : List ℕ). length l) is, length-append bytes (comma ∷ [])) in
    (λ i. held (is i) (are i) last)
    ∙ ap (λ (n : ℕ). held (bytes ++ comma ∷ []) (nexts ++ n ∷ []) n) long
    ∙ (λ i. record { cells = cell_more bytes comma 0 nexts start rise within i; cell = drop_all (length bytes + 1) (bytes ++ comma ∷ []) (omega (arith, length-append bytes (comma ∷ []))) i })
    ∙ ap (λ (h : Held). record { cells = h.cells ++ h.cell ∷ []; cell = [] }) same

-- the places then rise up to there
pub rise_held : (bytes more nexts places : List ℕ) (start last comma : ℕ) → Rise 0 nexts start → start ≤ length bytes → more ≡ bytes ++ comma ∷ [] → last ≡ length more → places ≡ nexts ++ last ∷ [] → Rise 0 places last
rise_held bytes more nexts places start last comma rise within is end are =
    subst (λ (l : List ℕ). Rise 0 l last) (sym are)
    (rise_more 0 nexts start last rise (omega (arith, end, ap (λ (l : List ℕ). length l) is, length-append bytes (comma ∷ []))))
