use Rattle.std.proofs.Common.{ap, ◌∙◌, ◌≤◌, length, nat_lt, subst, sym, unwrap_or}
use Rattle.sb_building.proofs.PlaceLemmas.{first_place, place_within}
use Rattle.sb_building.proofs.placing.place_for.Goals as goal

pub returns-clause-place : goal.returns-clause-place
returns-clause-place c =
    c.unwrap_or.ensures ∙ ap (λ o. unwrap_or o (length c.args.attachments.now)) c.first_above.ensures ∙ first_place (λ d. nat_lt c.args.code d.code) c.args.attachments.now

pub returns-clause-within : goal.returns-clause-within
returns-clause-within c = subst (λ n. n ≤ length c.args.attachments.now) (sym (returns-clause-place c)) (place_within (λ d. nat_lt c.args.code d.code) c.args.attachments.now)
