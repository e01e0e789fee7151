-- Of `is_framing`: what it ensures.
use Rattle.pm_frames.proofs.OneDeviceFrame.{device_framing_sound}
use Rattle.pm_frames.proofs.device.DeviceFrameStreamFrame.is_framing.Goals as goal

pub returns : goal.returns
returns c = device_framing_sound
