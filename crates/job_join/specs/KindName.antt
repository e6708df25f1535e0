-- The names of the causes for which a job and a schedule do not go together, and of the quantities that have a greatest.
use Rattle.std.specs.Prelude.{ℕ, List, codes}
use Rattle.job_join.specs.declared.fault.Quantity.{Quantity}
use Rattle.job_join.specs.declared.fault.Quantity.TheVariants.{Stations, Products, Channels, Samples, Seconds, Cells, Load, Epochs, Schedule, Job, Records, Slots}
use Rattle.job_join.specs.declared.fault.JoinFault.{JoinFault}
use Rattle.job_join.specs.declared.fault.JoinFault.TheVariants.{UnknownScan, UnknownStation, RateDiffers, ChannelDiffers, ProductDiffers, FrameRate, NoModel, NoClock, Limit, Memory}

abbrev pub quantity_name : Quantity → List ℕ
quantity_name Stations = codes "stations"
quantity_name Products = codes "products"
quantity_name Channels = codes "channels"
quantity_name Samples = codes "samples"
quantity_name Seconds = codes "seconds"
quantity_name Cells = codes "cells"
quantity_name Load = codes "load"
quantity_name Epochs = codes "epochs"
quantity_name Schedule = codes "schedule"
quantity_name Job = codes "job"
quantity_name Records = codes "records"
quantity_name Slots = codes "slots"

abbrev pub fault_name : JoinFault → List ℕ
fault_name (UnknownScan number) = codes "UnknownScan"
fault_name (UnknownStation number) = codes "UnknownStation"
fault_name (RateDiffers number) = codes "RateDiffers"
fault_name (ChannelDiffers number) = codes "ChannelDiffers"
fault_name (ProductDiffers number) = codes "ProductDiffers"
fault_name (FrameRate number) = codes "FrameRate"
fault_name (NoModel number) = codes "NoModel"
fault_name (NoClock number) = codes "NoClock"
fault_name (Limit quantity value) = codes "Limit"
fault_name Memory = codes "Memory"
