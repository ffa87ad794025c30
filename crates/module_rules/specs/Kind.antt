-- A module as its chain knows it, whatever its type (document 01, "Who is touched").
use Rattle.std.specs.Prelude.{◌≡◌, ℕ, List, [], Bool, cond}
use Rattle.line_receiver.specs.Frames.{Frame}
use Rattle.module_rules.specs.declared.Address.{Address}
use Rattle.module_rules.specs.Touch.{individually, speaks}

-- What the chain knows of a module type M, whose samples are S.
pub record Kind (M S : Type 0) : Type 0 where
  -- who the module is on the line
  pub address : M → Address
  -- the module after a frame that touched it, individually or by group
  pub execute : Frame → Bool → M → M
  -- its reply, of the record as it is after the frame; [] is none
  pub reply : Frame → M → List ℕ
  -- the module after a tick that hands it this sample
  pub tick : S → M → M

-- a touched module after the frame, and its reply
abbrev pub executed : {M S : Type 0} → Kind M S → Frame → M → M
executed K f m = K.execute f (individually f.address (K.address m)) m

abbrev pub replied : {M S : Type 0} → Kind M S → Frame → M → List ℕ
replied K f m = cond (speaks f.address (K.address m)) (K.reply f (executed K f m)) []

-- one kind of module is another's on the line, along h: h of a module is who it is, replies as it does, and goes through frames as h of it
pub record Lined {M N S T : Type 0} (K : Kind M S) (L : Kind N T) (h : M → N) : Type 0 where
  pub address : (m : M) → L.address (h m) ≡ K.address m
  pub execute : (f : Frame) (alone : Bool) (m : M) → L.execute f alone (h m) ≡ h (K.execute f alone m)
  pub reply : (f : Frame) (m : M) → L.reply f (h m) ≡ K.reply f m

-- and wholly so, where it goes through ticks as h of it, too
pub record Along {M S : Type 0} (K L : Kind M S) (h : M → M) : Type 0 where
  pub line : Lined K L h
  pub tick : (x : S) (m : M) → L.tick x (h m) ≡ h (K.tick x m)
