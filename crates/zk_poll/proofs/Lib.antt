mod LastWrite
mod Noting
mod SignalOwed
