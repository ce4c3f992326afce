use Rattle.sim_3_images.proofs.ScheduleLogins.{normal_device, own_client, plain_name, plain_word, served_device}
use Rattle.sim_3_images.proofs.device_logins.devices_have_identities.Goals as goal

pub returns : goal.returns
returns c = record { normal = normal_device; served = served_device; client = own_client; name = plain_name; password = plain_word }
