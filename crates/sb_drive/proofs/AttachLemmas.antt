-- One call of an attachment, and what it promises to its driver.
use Rattle.std.proofs.Common.{◌≡◌, true, List, All, sym, ap, subst, ◌∙◌}
use Rattle.sb_ctx.specs.Changes.{changed}
use Rattle.sb_ctx.specs.Db.{Db}
use Rattle.sb_ctx.specs.Pages.{Pages}
use Rattle.sb_ctx.specs.declared.instance.Instance.{Instance}
use Rattle.sb_ctx.specs.declared.calls.AttachCall.{AttachCall}
use Rattle.sb_ctx.specs.declared.calls.AttachCall.TheVariants as calls
use Rattle.sb_ctx.specs.declared.held.Found.{Found}
use Rattle.sb_ctx.specs.declared.moves.Move.{Move}
use Rattle.sb_ctx.specs.declared.moves.Move.TheVariants.{Need, Fresh, After, Find, Broken, NoMemory}
use Rattle.sb_ctx.specs.Attachment.{Attachment}
use Rattle.sb_ctx.specs.AttachAnswers.{Answers, AsksFor, Changes, Ends, IsBroken, Looks, Spends}
use Rattle.sb_ctx.specs.View.{View, given_at, dropped, FoundIn, keys_with, stored, IsClean}
use Rattle.sb_ctx.proofs.ViewLaws.{stored-clean}
use Rattle.sb_ctx.proofs.PageLaws.{AreSomeOf-given}
use Rattle.sb_drive.specs.AttachCalls.{IsAsking, promise_of}
use Rattle.sb_drive.specs.Promises.{KeepsPromise}
use Rattle.sb_drive.specs.Turns.{is_find}

-- a reading call is one that changes nothing
pub Changes-Looks : (a : Attachment) (inst : Instance) (call : AttachCall) (old new : View) (move : Move) → IsClean old → Looks a inst call old new move → Changes a inst call old new move
Changes-Looks a inst call old new move clean looks = record {
  given = ap dropped looks.same ∙ clean.unchanged;
  asks = subst (λ (c : View). AsksFor c move) (sym looks.same) looks.asks;
  broken = looks.broken;
  ends = looks.ends;
  answers = λ P part. subst (λ (Q : Pages). Answers a inst call old P Q move) (sym (ap (λ (c : View). stored c P) looks.same ∙ stored-clean old P clean.unchanged part)) (looks.answers P part);
  spends = λ ctx P part. subst (λ (c : View). Spends a inst call old P c move) (sym looks.same) (looks.spends P part);
}

-- the same of a call that is known by its kind
pub Changes-Looks-is : (a : Attachment) (inst : Instance) (call kind : AttachCall) (old new : View) (move : Move) → call ≡ kind → IsClean old → Looks a inst kind old new move → Changes a inst call old new move
Changes-Looks-is a inst call kind old new move is clean looks = subst (λ (c : AttachCall). Changes a inst c old new move) (sym is) (Changes-Looks a inst kind old new move clean looks)

-- ---- of the Ctx an answer speaks only by the answers to finds
FoundIn-same : (c d : View) (db : Db) → c.found ≡ d.found → FoundIn d db → FoundIn c db
FoundIn-same c d db same found = subst (λ (fs : List Found). All (λ f. f.keys ≡ keys_with db f.relation f.columns f.values) fs) (sym same) found

Ends-found : (a : Attachment) (inst : Instance) (call : AttachCall) (c d : View) (P after : Pages) (move : Move) → c.found ≡ d.found → Ends a inst call c P after move → Ends a inst call d P after move
Ends-found a inst calls.Prepare c d P after move same ends = ends
Ends-found a inst (calls.Build key row) c d P after move same ends = λ rule db stands built buckets before. ends rule db stands built buckets (record { of = before.of; lawful = before.lawful; found = FoundIn-same c d db same before.found; content = before.content })
Ends-found a inst (calls.Changed change) c d P after move same ends = λ rule db stands buckets before.
    ends rule db stands buckets (record { of = before.of; lawful = before.lawful; found = FoundIn-same c d (changed db inst.relation change) same before.found; content = before.content })
Ends-found a inst (calls.Late entry) c d P after move same ends = λ rule db stands buckets before. ends rule db stands buckets (record { found = FoundIn-same c d db same before.found; content = before.content })
Ends-found a inst (calls.NextEntry low above) c d P after move same ends = ends
Ends-found a inst calls.Sums c d P after move same ends = ends
Ends-found a inst (calls.Seek query) c d P after move same ends = ends

pub Answers-found : (a : Attachment) (inst : Instance) (call : AttachCall) (c d : View) (P after : Pages) (move : Move) → c.found ≡ d.found → Answers a inst call c P after move → Answers a inst call d P after move
Answers-found a inst call c d P after (Need n) same answers = tt
Answers-found a inst call c d P after Fresh same answers = tt
Answers-found a inst call c d P after (After low) same answers = tt
Answers-found a inst call c d P after (Find relation columns values) same answers = tt
Answers-found a inst call c d P after (Broken n) same answers = answers
Answers-found a inst call c d P after NoMemory same answers = tt
Answers-found a inst call c d P after move same answers = Ends-found a inst call c d P after move same answers

pub Spends-found : (a : Attachment) (inst : Instance) (call : AttachCall) (c d : View) (P : Pages) (new : View) (move : Move) → c.found ≡ d.found → Spends a inst call c P new move → Spends a inst call d P new move
Spends-found a inst calls.Prepare c d P new move same spends = spends
Spends-found a inst (calls.Build key row) c d P new move same spends = λ rule db stands built buckets before. spends rule db stands built buckets (record { of = before.of; lawful = before.lawful; found = FoundIn-same c d db same before.found; content = before.content })
Spends-found a inst (calls.Changed change) c d P new move same spends = λ rule db stands buckets before.
    spends rule db stands buckets (record { of = before.of; lawful = before.lawful; found = FoundIn-same c d (changed db inst.relation change) same before.found; content = before.content })
Spends-found a inst (calls.Late entry) c d P new move same spends = λ rule db stands buckets before. spends rule db stands buckets (record { found = FoundIn-same c d db same before.found; content = before.content })
Spends-found a inst (calls.NextEntry low above) c d P new move same spends = spends
Spends-found a inst calls.Sums c d P new move same spends = spends
Spends-found a inst (calls.Seek query) c d P new move same spends = spends

-- ---- a fresh page that is asked for
pub IsAsking-asked : (a : Attachment) (inst : Instance) (call : AttachCall) (old handed c : View) (move : Move) → move ≡ Fresh → old.found ≡ handed.found → Changes a inst call old c move → IsAsking a inst call handed c
IsAsking-asked a inst call old handed c move fresh found changes = record {
  found = ap (λ (v : View). v.found) changes.given ∙ found;
  asks = subst (λ (v : View). Changes a inst call v c Fresh) (sym changes.given) (subst (λ (to : Move). Changes a inst call old c to) fresh changes);
}

-- ---- what a call promises
Answers-find : (a : Attachment) (inst : Instance) (call : AttachCall) (c : View) (P after : Pages) (move : Move) → is_find move ≡ true → Answers a inst call c P after move
Answers-find a inst call c P after (Find relation columns values) is = tt
Answers-find a inst call c P after move is = cc

-- with the finds of the Ctx that it was handed
pub KeepsPromise-changes : (a : Attachment) (inst : Instance) (call : AttachCall) (old handed new : View) (move : Move) → old.found ≡ handed.found → Changes a inst call old new move → KeepsPromise (promise_of a inst call handed) old new move
KeepsPromise-changes a inst call old handed new move found changes = record {
  given = changes.given;
  asks = changes.asks;
  ends = changes.ends;
  answers = λ P part. Answers-found a inst call old handed P (stored new P) move found (changes.answers P part);
  find = λ P after is. Answers-find a inst call handed P after move is;
  broken = λ P n part is. record {
    held = given_at old;
    given = AreSomeOf-given old P part;
    may = subst (λ (to : Move). IsBroken a inst old to) is changes.broken;
    not_new = subst (λ (to : Move). Answers a inst call old P (stored new P) to) is (changes.answers P part);
  };
  spends = λ ctx P part. Spends-found a inst call old handed P new move found (changes.spends ctx P part);
  fresh = λ is. IsAsking-asked a inst call old handed new move is found changes;
}
