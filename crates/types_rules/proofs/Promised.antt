-- The types' numbers, and what every type keeps. Assumes nothing.
use mathlib.Core.Path.{◌≡◌, refl}
use mathlib.Core.Bool.{Bool, true, false, ◌||◌, false≢true}
use mathlib.Core.Logic.{inl, inr}
use borrow.Author.Tests.{eqb-true}
use lib.Dec.{eqb}
use Rattle.module_rules.proofs.Settled as Settled
use Rattle.module_rules.proofs.Tested.{cause-tested}
use Rattle.module_rules.proofs.Replies as Replies
use Rattle.module_rules.proofs.Frames as Frames
use Rattle.module_rules.proofs.Kept.{reply_most}
use Rattle.module_rules.specs.FramePromises.{AtPowerUp}
use Rattle.stepper_rules.proofs.Frames.{item_bits}
use Rattle.types_rules.specs.Table.{ModuleType, servo, inout, stepper, rules_of, slots_of}
use Rattle.types_rules.specs.Types.{known, GoodOf}
use Rattle.types_rules.specs.Promises.{ThereIs, Numbers, EveryType, ItemBytes, EveryFrame}
use Rattle.types_rules.proofs.Owed.{owes}

pub numbers : Numbers
numbers n = (λ e. there (eqb n 0) (eqb n 2) (eqb n 3) refl refl refl e, back)
  where
    there : (a b c : Bool) → eqb n 0 ≡ a → eqb n 2 ≡ b → eqb n 3 ≡ c → (a || (b || c)) ≡ true → ThereIs n
    there true b c p q r e = inl (eqb-true n 0 p)
    there false true c p q r e = inr (inl (eqb-true n 2 q))
    there false false true p q r e = inr (inr (eqb-true n 3 r))
    there false false false p q r e = absurd (false≢true e)

    back : ThereIs n → known n ≡ true
    back (inl e) = rw e refl
    back (inr (inl e)) = rw e refl
    back (inr (inr e)) = rw e refl

-- every type of the table is there
pub there_is : (t : ModuleType) → ThereIs (rules_of t).number
there_is servo = inl refl
there_is inout = inr (inl refl)
there_is stepper = inr (inr refl)

pub every_type : EveryType
every_type t =
    let a = (owes t).apart in
    record {
      cause = Settled.cause (rules_of t) a;
      tested = cause-tested (rules_of t) a;
      cause_is = Settled.cause_is (rules_of t) a;
      address = Settled.address_kept (rules_of t) a;
      resets = Replies.resets (rules_of t) a;
      status_first = Replies.status_first (rules_of t);
      replied = Replies.replied (rules_of t);
      read_shown = Replies.read_shown (rules_of t) a;
      short = Replies.short (rules_of t);
      most = reply_most (rules_of t) (slots_of t) (GoodOf t) (owes t);
      eight = λ m h. ((owes t).outputs m h).0;
      spelled = (owes t).numbers;
    }

pub item_bytes : ItemBytes
item_bytes = record { servo = λ b. refl; inout = λ b. refl; stepper = item_bits }

pub every_frame : EveryFrame
every_frame t = record { stored = Frames.stored (rules_of t) (owes t).apart; counts = Frames.counts (rules_of t) (owes t).apart; powers_up = starts t }
  where
    starts : (t : ModuleType) → AtPowerUp ((rules_of t).station (rules_of t).started)
    starts servo = Frames.powers_up
    starts inout = Frames.powers_up
    starts stepper = Frames.powers_up
