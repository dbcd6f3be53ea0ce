-- The pages that a database needs at a point.
use Rattle.std.specs.Prelude.{ℕ, ◌+◌, Bool, true, false, cond, not, List, [], Option, Some, None, sum, sum_by, max}
use Rattle.std.specs.Str.{bytes_eq}
use Rattle.sb_rule.specs.declared.change.Change.{Change}
use Rattle.sb_rule.specs.declared.rule.Side.TheVariants.{Main}
use Rattle.sb_rule.specs.declared.rule.Rule.{Rule}
use Rattle.sb_rule.specs.declared.rule.Rule.TheVariants.{JoinIndex}
use Rattle.sb_relation.specs.Db.{Name, Attached, Relation, Db, relation_at}
use Rattle.sb_fold.specs.Extensions.{Extensions, is_durable_method}
use Rattle.sb_fold.specs.Bounds.{method_bound, attached_bound, rule_bound}
use Rattle.sb_fold.specs.Costs.{rule_cost}
use Rattle.sb_fold.specs.Outcome.{Gone, Reached}

-- what a join index on the named relation edits in a change of this relation or of the other one
abbrev pub pairs_cost : Extensions → Db → Name → List Name → Name → List Name → Option (Name × Change) → ℕ
pairs_cost ext db name columns other others None = 0
pairs_cost ext db name columns other others (Some (changed, c)) =
    cond (bytes_eq changed name) (rule_cost ext db name (JoinIndex Main columns other others) 0 c)
    (cond (bytes_eq changed other) (rule_cost ext db other (JoinIndex Main others name columns) 0 c) 0)

-- A join index has its pages before and what it edits; any other attachment has the most of its pages before and after.
abbrev pub rule_weight : Extensions → Reached → Name → Attached → Rule → ℕ
rule_weight ext at name a (JoinIndex Main columns other others) =
    rule_bound ext at.before name (JoinIndex Main columns other others) 0 + pairs_cost ext at.before name columns other others at.change
rule_weight ext at name a rule = max (attached_bound ext at.before name a) (attached_bound ext at.after name a)

abbrev pub bound_before : Extensions → Option Relation → ℕ
bound_before ext None = 0
bound_before ext (Some r) = method_bound ext r

-- two pages of the catalogue, and the pages of a relation and of its attachments
abbrev pub relation_weight : Extensions → Reached → Name → Relation → ℕ
relation_weight ext at name r =
    2 + max (bound_before ext (relation_at at.before name)) (method_bound ext r) + sum_by (λ a. rule_weight ext at name a a.rule) r.attachments

-- the relations that outlive the run, or the others
abbrev pub is_meant : Extensions → Bool → Relation → Bool
is_meant ext true r = is_durable_method ext r.method
is_meant ext false r = not (is_durable_method ext r.method)

abbrev pub gone_pages : Bool → Gone → ℕ
gone_pages true gone = sum gone.durable
gone_pages false gone = sum gone.others

-- the pages of relations that outlive the run, or of the others, with their catalogue and with what is held aside
abbrev pub need : Extensions → Bool → Reached → ℕ
need ext durable at = 3 + sum_by (λ e. cond (is_meant ext durable e.1) (relation_weight ext at e.0 e.1) 0) at.after + gone_pages durable at.aside

-- of a database at rest
abbrev pub at_rest : Db → Reached
at_rest db = record { before = db; after = db; change = None; aside = record { durable = []; others = [] }; spent = 0 }
