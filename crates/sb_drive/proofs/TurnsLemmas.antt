-- What an answer means to a driver.
use Rattle.std.proofs.Common.{◌≡◌, ℕ, refl, subst}
use Rattle.sb_ctx.specs.declared.moves.Move.{Move}
use Rattle.sb_ctx.specs.declared.moves.Move.TheVariants.{Need, Fresh, After, Find, Broken, NoMemory}
use Rattle.sb_ctx.specs.declared.calls.AttachCall.{AttachCall}
use Rattle.sb_ctx.specs.MethodAnswers.{AsksFor, Reads}
use Rattle.sb_ctx.specs.AttachAnswers.{AsksFor as AttachAsksFor, Reads as AttachReads}
use Rattle.sb_ctx.specs.View.{View}
use Rattle.sb_drive.specs.declared.turns.Ask.{Ask}
use Rattle.sb_drive.specs.declared.turns.Ask.TheVariants as ask
use Rattle.sb_drive.specs.declared.turns.Turn.TheVariants.{Give, Stop, End as Ends}
use Rattle.sb_drive.specs.declared.space.SpaceFault.{SpaceFault}
use Rattle.sb_drive.specs.declared.space.SpaceFault.TheVariants as fault
use Rattle.sb_drive.specs.Spaces.{IsAskFault, IsReadFault}
use Rattle.sb_drive.specs.Turns.{IsEnd, turn_of}
use Rattle.sb_drive.proofs.AsksLemmas.{IsAsked}

-- what is asked for isn't held
IsAsked-method : (c : View) (move : Move) (a : Ask) → turn_of move ≡ Give a → AsksFor c move → IsAsked c a
IsAsked-method c (Need n) a is asks = let same : ask.Page n ≡ a = cc in subst (IsAsked c) same asks
IsAsked-method c Fresh a is asks = let same : ask.Fresh ≡ a = cc in subst (IsAsked c) same tt
IsAsked-method c (After low) a is asks = let same : ask.After low ≡ a = cc in subst (IsAsked c) same asks
IsAsked-method c move a is asks = cc

pub IsAsked-attachment : (c : View) (move : Move) (a : Ask) → turn_of move ≡ Give a → AttachAsksFor c move → IsAsked c a
IsAsked-attachment c (Find relation columns values) a is asks = cc
IsAsked-attachment c move a is asks = IsAsked-method c move a is asks

-- and a fresh page only by the move that asks for one
pub Fresh-asked : (move : Move) → turn_of move ≡ Give ask.Fresh → move ≡ Fresh
Fresh-asked (Need n) is = cc
Fresh-asked Fresh is = refl
Fresh-asked (After low) is = cc
Fresh-asked (Broken n) is = cc
Fresh-asked NoMemory is = cc
Fresh-asked move is = cc

-- as a page of a number is
pub Need-asked : (move : Move) (n : ℕ) → turn_of move ≡ Give (ask.Page n) → move ≡ Need n
Need-asked (Need m) n is = let same : ◌≡◌ {A = Ask} (ask.Page m) (ask.Page n) = cc in cc
Need-asked Fresh n is = cc
Need-asked (After low) n is = cc
Need-asked (Broken m) n is = cc
Need-asked NoMemory n is = cc
Need-asked move n is = cc

-- an end is the answer itself
pub end-is : (move end : Move) → turn_of move ≡ Ends end → move ≡ end
end-is (Need n) end is = cc
end-is Fresh end is = cc
end-is (After low) end is = cc
end-is (Broken n) end is = cc
end-is NoMemory end is = cc
end-is move end is = cc

pub IsEnd-end : (move end : Move) → turn_of move ≡ Ends end → IsEnd move
IsEnd-end (Need n) end is = cc
IsEnd-end Fresh end is = cc
IsEnd-end (After low) end is = cc
IsEnd-end (Broken n) end is = cc
IsEnd-end NoMemory end is = cc
IsEnd-end move end is = tt

-- ---- calls that only read
-- what they ask for is refused as to a call that only reads
pub IsReadFault-asked : (move : Move) (a : Ask) (e : SpaceFault) → Reads move → turn_of move ≡ Give a → IsAskFault a e → IsReadFault e
IsReadFault-asked (Need n) a e reads is asked = let same : a ≡ ask.Page n = cc in subst (λ (x : Ask). IsAskFault x e) same asked
IsReadFault-asked Fresh a e reads is asked = absurd reads
IsReadFault-asked (After low) a e reads is asked = let same : a ≡ ask.After low = cc in subst (λ (x : Ask). IsAskFault x e) same asked
IsReadFault-asked move a e reads is asked = cc

pub Reads-attachment : (call : AttachCall) (move : Move) → AttachReads call move → Reads move
Reads-attachment call Fresh reads = absurd reads
Reads-attachment call move reads = tt

-- a box that stops wants neither a page nor room
pub IsReadFault-stop : (move : Move) (e : SpaceFault) → turn_of move ≡ Stop e → IsReadFault e
IsReadFault-stop (Need n) e is = cc
IsReadFault-stop Fresh e is = cc
IsReadFault-stop (After low) e is = cc
IsReadFault-stop (Broken n) e is = let same : fault.Damaged n ≡ e = cc in subst IsReadFault same tt
IsReadFault-stop NoMemory e is = let same : fault.NoMemory ≡ e = cc in subst IsReadFault same tt
IsReadFault-stop move e is = cc
