-- The attachments, one by one.
use Rattle.std.proofs.Common.{◌≡◌, ℕ, ◌+◌, Bool, true, false, cond, List, [], ◌∷◌, ◌++◌, Option, Some, None, refl, sym, ap, ◌∙◌, subst, append_assoc, append-nil, drop, Result, Ok, Err}
use Rattle.std.specs.Prelude.{slice_get, is_ok, is_err, if◌then◌else◌}
use Rattle.std.specs.List.{flat_map}
use Rattle.std.proofs.lemmas.List.{drop_more, drop_all}
use Rattle.std.proofs.lemmas.Option.{get_or_from_slice_get, slice_get_within}
use Rattle.sb_rule.specs.declared.action.Action.{Action}
use Rattle.sb_rule.specs.declared.change.Change.{Change}
use Rattle.sb_relation.specs.Db.{Name, Attached}
use Rattle.sb_relation.specs.Rules.{follows}
use Rattle.sb_fold.specs.declared.refusal.Refusal.{Refusal}
use Rattle.sb_fold.specs.Extensions.{Extensions}
use Rattle.sb_fold.specs.Fold.{attachments_at, following, queue_late, unless_vetoed, vetoing}
use Rattle.sb_fold.specs.Outcome.{Trail, Going, Gives, Work, made, refuse, change_to, ◌>>=◌, with_picks}
use Rattle.sb_cascade.specs.Runs.{Admitted, Asked, IsVetoed, IsVetoedIf, MadeFrom, NotAsked, StopsFrom, is_free}
use Rattle.sb_cascade.specs.Steps.{ask_all}
use Rattle.sb_cascade.proofs.Forward.{forward_ask_all}
use Rattle.sb_cascade.proofs.Stopping.{stops_free, stops_here}

-- so many attachments were asked, none of them vetoed, and these actions follow from them
pub record Asking {S : Type 0} (Asks : ℕ → Going → S → Type 0) (ext : Extensions) (name : Name) (c : Change) (i : ℕ) (now : List Action) (g : Going) (new : S) : Type 0 where
  pub asks : Asks i g new
  pub admitted : vetoing ext g.db name c (attachments_at g.db name) ≡ vetoing ext g.db name c (drop i (attachments_at g.db name))
  pub follow : following g.db name c ≡ now ++ flat_map (λ a. follows g.db name a.rule c) (drop i (attachments_at g.db name))

next_is : {A : Type 0} (xs : List A) (i : ℕ) (x : A) → slice_get xs i ≡ Some x → drop i xs ≡ x ∷ drop (i + 1) xs
next_is xs i x at = drop_more xs i x (slice_get_within xs i x at) ∙ ap (λ z. z ∷ drop (i + 1) xs) (get_or_from_slice_get xs i x x at)

-- what is done once none of them vetoed
abbrev ask_all_with : Name → Change → Option Name → Work (List Action)
ask_all_with name c veto = unless_vetoed name veto >>= λ _. change_to (queue_late name c) >>= λ _. (λ going. made (following going.db name c) going)

module _ {S : Type 0} (Stands : Going → S → Type 0) (Asks : ℕ → Going → S → Type 0) (Stopped : Refusal → Trail → S → Type 0) (ext : Extensions) (name : Name) (c : Change) where
  pub asking_more : (ext1 : Extensions) (i : ℕ) (before now : List Action) (g : Going) (mid new : S) → ext1 ≡ ext
      → Asking Asks ext name c i before g mid → Asked Stands Asks ext1 name c i g (Some now) new → Asking Asks ext name c (i + 1) (before ++ now) g new
  asking_more ext1 i before now g mid new same asking asked =
      let all : List Attached = attachments_at g.db name in
      let one : Admitted ext name c i g now = subst (λ (ext : Extensions). Admitted ext name c i g now) same asked.0 in
      let rest : List Attached = drop (i + 1) all in
      let next : drop i all ≡ one.attached ∷ rest = next_is all i one.attached one.at in
      record {
        asks = asked.1;
        admitted = asking.admitted ∙ ap (vetoing ext g.db name c) next ∙ ap (λ b. cond b (vetoing ext g.db name c rest) (Some one.attached.name)) one.admits;
        follow = asking.follow
            ∙ ap (λ (l : List Attached). before ++ flat_map (λ a. follows g.db name a.rule c) l) next
            ∙ sym (append_assoc before (follows g.db name one.attached.rule c) (flat_map (λ a. follows g.db name a.rule c) rest))
            ∙ ap (λ (l : List Action). (before ++ l) ++ flat_map (λ a. follows g.db name a.rule c) rest) (sym one.now_are);
      }

  pub asking_all : (ext1 : Extensions) (i : ℕ) (now : List Action) (g : Going) (mid new : S)
      → Asking Asks ext name c i now g mid → Asked Stands Asks ext1 name c i g None new → MadeFrom Stands (ask_all ext name c) g now new
  asking_all ext1 i now g mid new asking asked =
      let all : List Attached = attachments_at g.db name in
      let none : drop i all ≡ [] = drop_all i all asked.0 in
      let admitted : vetoing ext g.db name c all ≡ None = asking.admitted ∙ ap (vetoing ext g.db name c) none in
      let follow : following g.db name c ≡ now = asking.follow ∙ ap (λ (l : List Attached). now ++ flat_map (λ a. follows g.db name a.rule c) l) none ∙ append-nil now in
      record {
        picks = [];
        after = queue_late name c g;
        leads = record {
          leads = λ left.
              ap (λ (veto : Option Name). ask_all_with name c veto (with_picks g left)) admitted
              ∙ ap (λ (l : List Action). Gives l (queue_late name c (with_picks g left))) follow;
        };
        stands = asked.1;
      }

  vetoed_by : (ext1 : Extensions) (i : ℕ) (now : List Action) (g : Going) (r : Refusal) (mid new : S) → ext1 ≡ ext → is_free r ≡ false
      → Asking Asks ext name c i now g mid → IsVetoed ext1 name c i g r → Stopped r g.trail new → StopsFrom Stopped (ask_all ext name c) g r new
  vetoed_by ext1 i now g r mid new same quiet asking vetoed stopped =
      let all : List Attached = attachments_at g.db name in
      let one : IsVetoed ext name c i g r = subst (λ (ext : Extensions). IsVetoed ext name c i g r) same vetoed in
      let rest : List Attached = drop (i + 1) all in
      let veto : vetoing ext g.db name c all ≡ Some one.attached.name =
      asking.admitted ∙ ap (vetoing ext g.db name c) (next_is all i one.attached one.at) ∙ ap (λ b. cond b (vetoing ext g.db name c rest) (Some one.attached.name)) one.admits in
      stops_here Stopped (ask_all ext name c) r new g quiet
      (λ left. ap (λ (veto : Option Name). ask_all_with name c veto (with_picks g left)) veto ∙ ap (λ (r : Refusal). refuse {A = List Action} r (with_picks g left)) (sym one.is)) stopped

  pub asking_stopped : (ext1 : Extensions) (i : ℕ) (now : List Action) (g : Going) (r : Refusal) (mid new : S) → ext1 ≡ ext
      → Asking Asks ext name c i now g mid → NotAsked Stopped ext1 name c i g r new → StopsFrom Stopped (ask_all ext name c) g r new
  asking_stopped ext1 i now g r mid new same asking not_asked = of_kind (is_free r) refl not_asked.vetoed
    where
      of_kind : (b : Bool) → is_free r ≡ b → IsVetoedIf b ext1 name c i g r → StopsFrom Stopped (ask_all ext name c) g r new
      of_kind true free vetoed = stops_free Stopped (ask_all ext name c) r new g free (forward_ask_all ext name c) not_asked.stopped
      of_kind false quiet vetoed = vetoed_by ext1 i now g r mid new same quiet asking vetoed not_asked.stopped

-- what was appended, where there was room
pub appended : {T E A : Type 0} (x : Result T E) (xs ys zs : List A) → is_err x ≡ false → zs ≡ (if is_ok x then xs ++ ys else xs) → zs ≡ xs ++ ys
appended (Ok x) xs ys zs ok is = is
appended (Err e) xs ys zs ok is = cc
