-- What a chain of any modules promises holds of this network's: who is touched, whose record changes, who replies. Assumes nothing.
use Rattle.chain_rules.specs.Promises.{TouchedBefore, Enabled, HandedOn, OwnRecord, Untouched, Says, RepliesAre, EachHeard, InOrder, Lengths, ByteTaken, NumberTold}
use Rattle.module_rules.specs.Promises.{SpeaksBefore}
use Rattle.module_rules.specs.FramePromises.{Replying}
use Rattle.module_rules.proofs.Speaking as Speaking
use Rattle.module_rules.proofs.Frames as Frames
use Rattle.chain_rules.proofs.Touching as Touching
use Rattle.chain_rules.proofs.Replies as Replies
use Rattle.chain_rules.proofs.Bytes as Bytes
use Rattle.types_rules.specs.Types.{kind}

pub touched_before : TouchedBefore kind
touched_before = Touching.touched_before kind

pub enabled : Enabled
enabled = Touching.enabled

pub handed_on : HandedOn
handed_on = Touching.handed_on

pub own_record : OwnRecord kind
own_record = Touching.own_record kind

pub untouched : Untouched kind
untouched = Touching.untouched kind

pub speaks_before : SpeaksBefore kind
speaks_before = Speaking.speaks_before kind

pub replying : Replying kind
replying = Frames.replying kind

pub says : Says kind
says = Touching.says kind

pub replies_are : RepliesAre kind
replies_are = Replies.replies_are kind

pub each_heard : EachHeard kind
each_heard = Replies.each_heard kind

pub in_order : InOrder kind
in_order = Replies.in_order kind

pub lengths : Lengths
lengths = Replies.lengths

pub byte_taken : ByteTaken kind
byte_taken = Bytes.byte_taken kind

pub number_told : NumberTold kind
number_told = Bytes.number_told kind
