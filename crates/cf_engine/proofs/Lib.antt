mod Made
mod Sent
