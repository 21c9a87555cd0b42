-- What goes from one thread to another: the ends of the channels that a worker takes, and what it sends back.
use denote.Param.Send.{IsSend, sendable}
use Rattle.std.proofs.Crossing.{crosses}
use Rattle.work_index.specs.contracts.done.Done as Done
use Rattle.work_index.proofs.Crossing.{out_send}
use Rattle.std.specs.contracts.alloc.Global as Global
use Rattle.std.specs.contracts.impls.GlobalAllocator.TheImpl.{ghosts}
use Rattle.crossbeam_channel.specs.contracts.channel.Receiver as Receiver
use Rattle.crossbeam_channel.specs.contracts.channel.Sender as Sender
use Rattle.crossbeam_channel.proofs.channel.Receiver.TheSendSync as receiver
use Rattle.crossbeam_channel.proofs.channel.Sender.TheSendSync as sender
use Rattle.piece_collector.specs.contracts.job.Job as Job
use Rattle.piece_collector.proofs.job.Job.TheSendSync as job

done_send : IsSend Done.the_row
done_send = search (sendable, crosses, out_send) depth 40

pub jobs_send : IsSend (Receiver.the_row Job.the_row Global.the_row ghosts)
jobs_send = search (sendable, crosses, receiver.the_send, job.the_send) depth 20

pub results_send : IsSend (Sender.the_row Done.the_row Global.the_row ghosts)
results_send = search (sendable, crosses, sender.the_send, done_send) depth 20
