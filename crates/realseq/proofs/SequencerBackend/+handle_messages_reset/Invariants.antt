-- Handling a reset handles the messages behind it: each call has fewer messages queued, or as many and is the handling.
use Rattle.std.proofs.Common.{◌+◌}
use Rattle.realseq.proofs.SequencerBackend.+handle_messages_reset.Given as goal

abbrev pub decreases-handle_messages : goal.decreases-handle_messages
decreases-handle_messages l = l.self.now.messages.count + l.self.now.messages.count

abbrev pub decreases-reset_in_place : goal.decreases-reset_in_place
decreases-reset_in_place l = l.self.now.messages.count + l.self.now.messages.count + 1
