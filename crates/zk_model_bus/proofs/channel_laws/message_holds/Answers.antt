use Rattle.zk_model_bus.proofs.ChannelTells.{get_tells_the_last_set, list_tells_the_unmasked, mask_knows_its_observers}
use Rattle.zk_model_bus.proofs.channel_laws.message_holds.Goals as goal

pub returns : goal.returns
returns c = record { get = get_tells_the_last_set; list = list_tells_the_unmasked; mask = mask_knows_its_observers }
