use Rattle.std.proofs.Common.{◌≡◌, ℕ, ◌+◌, ◌<◌, true, false, List, [], ◌∷◌, ◌++◌, length, get_or, drop, map, sym, ◌∙◌, ap, arith}
use Rattle.std.proofs.lemmas.List.{get_or-drop, get_or_default, drop-set-lt, take_all}
use Rattle.std.proofs.lemmas.Grind.{drop_more_same}
use Rattle.std.specs.Prelude.{filter}
use Rattle.sp_match.specs.declared.moves.Move.{Move}
use Rattle.sp_match.specs.public.Laws.{is_completion}
use Rattle.sp_match.specs.public.Seen.{seen}
use Rattle.sp_seq.specs.Completed.{match_told, matches_told}
use Rattle.sp_seq.proofs.Adding.{adds_one, adds_none}
use Rattle.sp_seq.proofs.found.add_matches.Goals as goal
use Rattle.sp_seq.proofs.found.add_matches.Goals.{then-completes+in_ok-add_match, else-completes}

-- what stands at a place of lists that are the same from there on
same_at : (xs ys : List Move) (i : ℕ) (d : Move) → drop i xs ≡ drop i ys → get_or xs i d ≡ get_or ys i d
same_at xs ys i d same =
    let n : i + 0 ≡ i = omega arith in
    ap (λ k. get_or xs k d) (sym n) ∙ sym (get_or-drop i xs 0 d) ∙ ap (λ l. get_or l 0 d) same ∙ get_or-drop i ys 0 d ∙ ap (λ k. get_or ys k d) n

pub loop-at-preserved : goal.loop-at-preserved
loop-at-preserved c =
    let i = c.loop-at.at in
    let now = c.loop-at.moves in
    let first = c.args.moves.now in
    let d = c.index-moves-at.result in
    let is : d ≡ get_or first i d = c.index-moves-at.is ∙ same_at now first i d c.loop-at.invariant.ahead in
    let within : i < length now = omega (arith, c.loop-at-test.true, c.loop-at.auto.moves) in
    elim c.if-completes.branch [
      | then-completes+in_ok-add_match w ↦
          let it : is_completion (seen d) ≡ true = ap (λ m. is_completion (seen m)) c.index-moves-at.is ∙ sym c.completes.ensures ∙ w.if-completes.true in
          let e = w.index-moves-at-then-completes.result in
          let moved : w.replace-one.result ≡ d = w.replace-one.ensures.value ∙ get_or_default now i e d within ∙ sym c.index-moves-at.is in
          record {
            added = adds_one c.args.window c.args.matches.now.items c.loop-at.matches.items first i d d c.loop-at-test.true is c.loop-at.invariant.added it c.if-completes.matches.items
                (ap (λ v. v.items) w.matches-is ∙ w.in_ok-add_match.ensures ∙ ap (λ (m : Move). c.loop-at.matches.items ++ match_told c.args.window (length c.loop-at.matches.items + 1) (seen m) ∷ []) moved);
            ahead = ap (drop (i + 1)) w.moves-is ∙ drop-set-lt (i + 1) now i _ (omega arith) ∙ drop_more_same now first i c.loop-at.invariant.ahead;
          }
      | else-completes w ↦
          let not : is_completion (seen d) ≡ false = ap (λ m. is_completion (seen m)) c.index-moves-at.is ∙ sym c.completes.ensures ∙ w.if-completes.false in
          record {
            added = ap (λ v. v.items) w.matches-is ∙ adds_none c.args.window c.args.matches.now.items c.loop-at.matches.items first i d d c.loop-at-test.true is c.loop-at.invariant.added not;
            ahead = ap (drop (i + 1)) w.moves-is ∙ drop_more_same now first i c.loop-at.invariant.ahead;
          }
    ]

pub returns : goal.returns
returns c =
    c.loop-at.invariant.added
    ∙ ap (λ (l : List Move). c.args.matches.now.items ++ matches_told c.args.window (length c.args.matches.now.items + 1) (filter is_completion (map seen l))) (take_all c.loop-at.at c.args.moves.now c.loop-at-test.false)
