use Rattle.std.proofs.Common.{◌≡◌, ℕ, ◌<◌, List, length, get_or, ap, subst, ◌∙◌, arith}
use Rattle.sp_chance.specs.Shares.{share_of}
use Rattle.sp_splitter.specs.Asking.{IsGuessed}
use Rattle.sp_splitter.proofs.Listed.{listed, shows, walked}
use Rattle.sp_splitter.proofs.Guessed.{guessed_more}
use Rattle.sp_splitter.proofs.guessing.guess.Goals as goal

pub loop-id-init : goal.loop-id-init
loop-id-init g c k low = absurd (omega (arith, low))

pub loop-id-preserved : goal.loop-id-preserved
loop-id-preserved g c =
    let core = c.args.core.now in
    guessed_more core.plan core.machine ((goal.Predictor-dyn g c.args.predictor.now).means c.args.predictor.now.1) (share_of c.loop-id.chances) (share_of c.guess_version.new.chances)
    (λ k. get_or c.deref-id-items.result.now k 0) c.loop-id.id-index c.loop-id.invariant c.in_ok-guess_version.ensures.guessed c.in_ok-guess_version.ensures.others

pub returns : goal.returns
returns g c id v r at group =
    let tree = c.tree.result.now in
    let entry = shows c.args.core.now tree c.tree.ensures id v at in
    let place = listed tree.entries id entry.entry entry.is in
    let ids : c.deref-id-items.result.now ≡ walked tree.entries = c.deref-id-items.ensures.value ∙ c.in_ok-ids.ensures in
    let k : ℕ = place.0 in
    let all : length c.deref-id-items.result.now ≡ length (walked tree.entries) = ap length ids in
    let low : k < c.loop-id.id-index = omega (arith, place.1) in
    let is : get_or c.deref-id-items.result.now k 0 ≡ id = ap (λ (ns : List ℕ). get_or ns k 0) ids ∙ place.2 in
    subst (λ (n : ℕ). IsGuessed c.args.core.now.plan c.args.core.now.machine ((goal.Predictor-dyn g c.args.predictor.now).means c.args.predictor.now.1) (share_of c.loop-id.chances) n) is
    (c.loop-id.invariant k low) v r at group
